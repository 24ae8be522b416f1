-- What only moves the point stands for what it goes on with.
use Rattle.lucid_demand_steps.proofs.Common.{◌≡◌, ℕ, ◌*◌, ◌<◌, ◌⊎◌, inl, inr, [], Option, Some, None, refl, sym, ap, ◌∙◌, subst, arith, filter_map, Head, In, Inside, Elements, entered_of, frozen_frame, PlainNode, PlainNodes, row, freeze, reference, invoke, part_of, onward, node_hval, node_visits, IsNeeded, node_at, node_by, parts, equations_of, IsInRange, HasPart, Node, Freeze, Table, row-node, part-lower, part-node, PlainTask, DatonAt, node_of, part_number, moved, moved_by, Holding, StandsFor, given, hval_of, visits_of, TaskNeeds}
use Rattle.std.proofs.Common.{length, slice_get, option_map, option_and_then}
use Rattle.lucid_equations.specs.Moving.{OnlyMoves}
use Rattle.lucid_equations.specs.declared.step.PartAt.{PartAt}
use Rattle.lucid_equations.proofs.Moving.{moved-value, moved-visits, moved-needs, six-move}
use Rattle.lucid_demand_steps.proofs.Looking.{has_part}

-- the subject of a frozen node
abbrev subject : PlainNode → Option PlainNode
subject (freeze e) = Some e
subject _ = None

not-frozen : {A : Type 0} (e : PlainNode) → None ≡ Some e → A
not-frozen e h = absurd (cc)

same-number : (i k : ℕ) → Some i ≡ Some k → i ≡ k
same-number i k h = cc

same-node : (a e : PlainNode) → Some a ≡ Some e → e ≡ a
same-node a e h = cc

subject-named : (T : Table) (n : Node) (e : PlainNode) (k : ℕ) → subject (node_by T n) ≡ Some e → slice_get (parts n) 0 ≡ Some k → e ≡ node_at T k
subject-named T (Freeze a) e k h p = same-node (node_at T a) e h ∙ ap (node_at T) (same-number a k p)
subject-named T _ e k h p = not-frozen e h

-- The subject of a frozen node is the node of its part.
pub subject-node : (T : Table) → IsInRange T → (id k : ℕ) (e : PlainNode) → node_at T id ≡ freeze e → HasPart T id 0 k → e ≡ node_at T k
subject-node T range id k e is p = subject-named T p.row e k (ap subject (sym (row-node T range id p.row p.there) ∙ is)) p.names

-- What a task that only moves the point has, visits, enters and needs, the task that it goes on with has, visits and needs.
pub record Moves (T : Table) (new old : PlainTask) : Type 0 where
  pub lower : new.node < old.node
  pub limit : new.limit ≡ old.limit
  pub values : (b : Elements) (h : Holding) (m : ℕ) → hval_of T b h m new ≡ hval_of T b h m old
  pub visits : (b : Elements) (m e : ℕ) → Inside (visits_of T b m e new) (visits_of T b m e old)
  pub context : (b : Elements) (m e : ℕ) → (new.context ≡ old.context) ⊎ In new.context (filter_map entered_of (visits_of T b m e old))
  pub needs : (b : Elements) (k : DatonAt) → TaskNeeds T b old k → TaskNeeds T b new k

module _ (T : Table) (range : IsInRange T) where
  -- a form that only moves the point
  form-moves : (x : PlainTask) (f : Head) (es : PlainNodes) (q : PartAt) (n : ℕ) → node_of T x ≡ row f es → onward f x.time x.space ≡ Some q
      → part_number T x.node q.part ≡ Some n
      → Moves T (record x { node = n; time = q.time; space = q.space }) x
  form-moves x f es q n is on number =
      let part : HasPart T x.node q.part n = has_part T x.node q.part n number in
      let only : OnlyMoves f x.time x.space q = six-move f x.time x.space q on in
      let named : part_of es q.part ≡ Some (node_at T n) = part-node T range x.node q.part n part f es is in
      record {
        lower = part-lower T range x.node q.part n part;
        limit = refl;
        values = λ b h m. sym (ap (λ z. node_hval (equations_of T) (given b h) m z x.context x.time x.space) is
            ∙ moved-value (equations_of T) f es (node_at T n) x.time x.space q only named (given b h) m x.context);
        visits = λ b m e v i. subst (λ z. In v (node_visits (equations_of T) b m e z x.context x.time x.space)) (sym is)
            (subst (λ xs. In v xs) (sym (moved-visits (equations_of T) f es (node_at T n) x.time x.space q only named b m e x.context)) i);
        context = λ b m e. inl refl;
        needs = λ b k i. (moved-needs (equations_of T) f es (node_at T n) x.time x.space q only named b x.context k).0
            (subst (λ z. IsNeeded (equations_of T) b z x.context x.time x.space k) is i);
      }

  -- a frozen time
  frozen-moves : (x : PlainTask) (e : PlainNode) (n : ℕ) → node_of T x ≡ freeze e → part_number T x.node 0 ≡ Some n
      → Moves T (record x { node = n; context = frozen_frame x.time x.context }) x
  frozen-moves x e n is number =
      let part : HasPart T x.node 0 n = has_part T x.node 0 n number in
      let named : node_of T x ≡ freeze (node_at T n) = is ∙ ap freeze (subject-node T range x.node n e is part) in
      record {
        lower = part-lower T range x.node 0 n part;
        limit = refl;
        values = λ b h m. sym (ap (λ z. node_hval (equations_of T) (given b h) m z x.context x.time x.space) named);
        visits = λ b m d v i. subst (λ z. In v (node_visits (equations_of T) b m d z x.context x.time x.space)) (sym named) (inr i);
        context =
            λ b m d.
            inr (subst (λ z. In (frozen_frame x.time x.context) (filter_map entered_of (node_visits (equations_of T) b m d z x.context x.time x.space)))
            (sym named) (inl refl));
        needs = λ b k i. subst (λ z. IsNeeded (equations_of T) b z x.context x.time x.space k) named i;
      }

  -- the task of a part's number, if there is one
  go-number : (P : PlainTask → Type 0) (to : ℕ → PlainTask) (y : PlainTask) (o : Option ℕ) → ((n : ℕ) → o ≡ Some n → P (to n)) → option_map to o ≡ Some y → P y
  go-number P to y None f h = absurd (cc)
  go-number P to y (Some n) f h = let e : to n ≡ y = cc in subst P e (f n refl)

  go-form : (x y : PlainTask) (f : Head) (es : PlainNodes) → node_of T x ≡ row f es → (o : Option PartAt) → onward f x.time x.space ≡ o
      → option_and_then (λ q. option_map (λ n. record x { node = n; time = q.time; space = q.space }) (part_number T x.node q.part)) o ≡ Some y → Moves T y x
  go-form x y f es is None on h = absurd (cc)
  go-form x y f es is (Some q) on h =
      go-number (λ z. Moves T z x) (λ n. record x { node = n; time = q.time; space = q.space }) y (part_number T x.node q.part)
      (λ n e. form-moves x f es q n is on e) h

  by-node : (x y : PlainTask) (e : PlainNode) → node_of T x ≡ e → moved_by T x e ≡ Some y → Moves T y x
  by-node x y (row f es) is h = go-form x y f es is (onward f x.time x.space) refl h
  by-node x y (freeze e) is h =
      go-number (λ z. Moves T z x) (λ n. record x { node = n; context = frozen_frame x.time x.context }) y (part_number T x.node 0)
      (λ n p. frozen-moves x e n is p) h
  by-node x y (reference r) is h = absurd (cc)
  by-node x y (invoke n at l) is h = absurd (cc)

  pub moved-moves : (x y : PlainTask) → moved T x ≡ Some y → Moves T y x
  moved-moves x y h = by-node x y (node_of T x) refl h

-- What a task goes on with stands for it by no reference; its node is lower.
pub moves-stand : (T : Table) (x y : PlainTask) → Moves T y x → StandsFor T [] y x
moves-stand T x y p = record {
  fewer = 0;
  limit = sym p.limit;
  rank = let same : y.limit * length T.nodes ≡ x.limit * length T.nodes = ap (λ l. l * length T.nodes) p.limit in omega (arith, same, p.lower);
  values = λ b h l m. p.values b h m;
  visits = λ b m e. p.visits b m e;
  needs = λ b k n. inr (p.needs b k n);
}
