-- What is held and noted, where a value is put or dropped, and where a context becomes known.
use Rattle.lucid_demand_steps.proofs.Common.{◌≡◌, ℕ, cond, List, Option, Some, None, ◌⊎◌, inl, inr, refl, sym, ap, ◌∙◌, subst, true≢false, IsTrue, IsSome, is_some, Decides, Decides-eqb, Decides-and, Decides-like, PlainValue, In, Elements, goes_to, Context, KeepsKnown, space_of, Tag, Noted, number_at, Equations, Daton, NodePosition, NodeAim, daton_aim, same_daton, NodeMeans, node_at, equations_of, node-meant_once, same-daton, DatonAt, Holding, DatonMeans, NeedsHeld, IsClosed, NotedRight, Counted, cursor_noted, holding, Demand, table_of, stays, held_if, IsVisited, IsEntered, MayPut, StockFacts, is_daton, PutsDaton}
use Rattle.std.proofs.Common.{true, false}
use Rattle.std.specs.Prelude.{◌==◌}
use Rattle.lucid_tags.specs.Known.{context_of}

-- the test of the same daton at the same space decides
pub is_daton_decides : (k q : DatonAt) → Decides (is_daton k q) (k ≡ q)
is_daton_decides k q = Decides-like (is_daton k q) (λ e i. (e.0 i, e.1 i)) (λ e. (ap (λ z. z.0) e, ap (λ z. z.1) e))
    (Decides-and (same_daton k.0 q.0) (k.1 == q.1) (same-daton k.0 q.0) (Decides-eqb k.1 q.1))

abbrev position_in : NodePosition → NodeAim → NodePosition
position_in z (goes_to k y u) = y
position_in z _ = z

abbrev time_in : NodeAim → ℕ
time_in (goes_to k y u) = u
time_in _ = 0

-- a daton means at most one value
pub datons_mean_once : (p : Equations) (b : Elements) (k : DatonAt) (v w : PlainValue) → DatonMeans p b k v → DatonMeans p b k w → v ≡ w
datons_mean_once p b k v w m n =
    let y : n.position ≡ m.position = ap (position_in n.position) (sym n.aim ∙ m.aim) in
    let u : n.time ≡ m.time = ap time_in (sym n.aim ∙ m.aim) in
    node-meant_once p b m.position.node m.position.context m.time k.1 v w m.means
    (subst (λ t. NodeMeans p b m.position.node m.position.context t k.1 w) u (subst (λ z. NodeMeans p b z.node z.context n.time k.1 w) y n.means))

-- What a put leaves of a daton: it is the one that was put, with the value, or it has what it had.
module _ (h g : Holding) (k : DatonAt) (v : PlainValue) (puts : PutsDaton h g k v) where
  pub put_here : g k.0 k.1 ≡ Some v
  put_here = puts k ∙ ap (λ t. cond t (Some v) (h k.0 k.1)) ((is_daton_decides k k).1 refl)

  pub put_cases : (q : DatonAt) → ((k ≡ q) × (g q.0 q.1 ≡ Some v)) ⊎ (g q.0 q.1 ≡ h q.0 q.1)
  put_cases q =
      (elim (is_daton k q) as (λ t. is_daton k q ≡ t → ((k ≡ q) × (g q.0 q.1 ≡ Some v)) ⊎ (g q.0 q.1 ≡ h q.0 q.1)) [
        | true ↦ λ e. inl ((is_daton_decides k q).0 e, puts q ∙ ap (λ t. cond t (Some v) (h q.0 q.1)) e)
        | false ↦ λ e. inr (puts q ∙ ap (λ t. cond t (Some v) (h q.0 q.1)) e)
      ]) refl

  -- what was held is held
  pub put_keeps : (q : DatonAt) → IsSome (h q.0 q.1) → IsSome (g q.0 q.1)
  put_keeps q i = elim (put_cases q) [ inl e ↦ ap is_some e.1 | inr e ↦ ap is_some e ∙ i ]

-- what is needed is held where more is held
needs_more : (p : Equations) (b : Elements) (h g : Holding) → ((q : DatonAt) → IsSome (h q.0 q.1) → IsSome (g q.0 q.1)) → (x : NodePosition) (u s : ℕ)
    → NeedsHeld p b h x.node x.context u s → NeedsHeld p b g x.node x.context u s
needs_more p b h g more x u s n k i = more k (n k i)

-- The value of a daton is put, where it means it, is visited, and all that it needs is held.
pub stock_puts :
    (d : Demand) (b : Elements) (known : List Context) (h g : Holding) (lost : ℕ) (noted : Noted) (k : DatonAt) (v : PlainValue)
    → StockFacts d b known h lost noted
    → MayPut d b h lost k v → PutsDaton h g k v
    → StockFacts d b known g lost noted × (IsSome (g k.0 k.1)) × ((q : DatonAt) → IsSome (h q.0 q.1) → IsSome (g q.0 q.1))
stock_puts d b known h g lost noted k v f m puts = (facts, ap is_some (put_here h g k v puts), more)
  where
    more : (q : DatonAt) → IsSome (h q.0 q.1) → IsSome (g q.0 q.1)
    more = put_keeps h g k v puts

    right : (q : DatonAt) (w : PlainValue) → g q.0 q.1 ≡ Some w → DatonMeans (equations_of (table_of d)) b (q.0, q.1) w
    right q w e = elim (put_cases h g k v puts q) [
      | inl c ↦ let same : v ≡ w = some_once (sym c.1 ∙ e) in
          subst (λ z. DatonMeans (equations_of (table_of d)) b (q.0, q.1) z) same (subst (λ z. DatonMeans (equations_of (table_of d)) b z v) c.0 m.means)
      | inr c ↦ f.right q.0 q.1 w (sym c ∙ e)
    ]
      where
        some_once : {x y : PlainValue} → ◌≡◌ {A = Option PlainValue} (Some x) (Some y) → x ≡ y
        some_once e = cc

    kept : (q : DatonAt) (w : PlainValue) → stays d q.0 q.1 ≡ Some w → g q.0 q.1 ≡ Some w
    kept q w e = elim (put_cases h g k v puts q) [
      | inl c ↦ c.1 ∙ ap Some (datons_mean_once (equations_of (table_of d)) b (q.0, q.1) v w
          (subst (λ z. DatonMeans (equations_of (table_of d)) b z v) c.0 m.means) (f.right q.0 q.1 w (f.stays q.0 q.1 w e)))
      | inr c ↦ c ∙ f.stays q.0 q.1 w e
    ]

    traced : (q : DatonAt) → IsSome (g q.0 q.1) → IsSome (holding d.first q.0 q.1) ⊎ IsVisited d b (q.0, q.1)
    traced q i = elim (put_cases h g k v puts q) [
      | inl c ↦ inr (subst (λ z. IsVisited d b z) c.0 m.visited)
      | inr c ↦ f.traced q.0 q.1 (ap is_some (sym c) ∙ i)
    ]

    closed : IsTrue d.first.keeps → lost ≡ 0 → IsClosed (equations_of (table_of d)) b g
    closed keeps z q x u s i aim = needs_more (equations_of (table_of d)) b h g more x u s (elim (put_cases h g k v puts (q, s)) [
      | inl c ↦ subst (λ r. NeedsHeld (equations_of (table_of d)) b h x.node x.context u r) (ap (λ n. n.1) c.0)
          (m.needs keeps z x u (subst (λ n. daton_aim (equations_of (table_of d)) n ≡ goes_to n x u) (ap (λ n. n.0) (sym c.0)) aim))
      | inr c ↦ f.closed keeps z q x u s (ap is_some (sym c) ∙ i) aim
    ])

    facts : StockFacts d b known g lost noted
    facts = record {
      right = λ q s w e. right (q, s) w e;
      stays = λ q s w e. kept (q, s) w e;
      traced = λ q s i. traced (q, s) i;
      closed = closed;
      noted_right = f.noted_right;
      noted_closed = λ keeps z node tag key number e form nodes is stream part u lt q n.
          more q (f.noted_closed keeps z node tag key number e form nodes is stream part u lt q n);
      contexts = f.contexts;
    }

-- what stays is held, where a policy that keeps drops nothing
stays_held : (d : Demand) (h g : Holding) → ((k : Daton) (s : ℕ) (v : PlainValue) → stays d k s ≡ Some v → h k s ≡ Some v)
    → (IsTrue d.first.keeps → (k : DatonAt) → g k.0 k.1 ≡ h k.0 k.1) → (k : Daton) (s : ℕ) (v : PlainValue) → stays d k s ≡ Some v → g k s ≡ Some v
stays_held d h g was same k s v e =
    (elim d.first.keeps as (λ t. d.first.keeps ≡ t → held_if t (holding d.first) k s ≡ Some v → g k s ≡ Some v) [
      | true ↦ λ keeps i. same keeps (k, s) ∙ was k s v e
      | false ↦ λ keeps i. absurd (none_some i)
    ]) refl e
  where
    none_some : None ≡ Some v → ⊥
    none_some i = cc

-- Values are dropped, by a policy's turn or for want of memory, and with them noted positions.
pub stock_drops :
    (d : Demand) (b : Elements) (known : List Context) (h g : Holding) (lost more : ℕ) (noted fewer : Noted) → StockFacts d b known h lost noted
    → (more ≡ 0 → lost ≡ 0)
    → ((k : DatonAt) (v : PlainValue) → g k.0 k.1 ≡ Some v → h k.0 k.1 ≡ Some v) → (IsTrue d.first.keeps → (k : DatonAt) → g k.0 k.1 ≡ h k.0 k.1)
    → ((node : ℕ) (tag : Tag) (key number : ℕ) → number_at fewer node tag key ≡ Some number → number_at noted node tag key ≡ Some number)
    → StockFacts d b known g more fewer
stock_drops d b known h g lost more noted fewer f none drops same notes = record {
  right = λ k s v e. f.right k s v (drops (k, s) v e);
  stays = stays_held d h g f.stays same;
  traced = λ k s i. f.traced k s (there (k, s) (g k s) refl i);
  closed = λ keeps z k x u s i aim q n. ap is_some (same keeps q) ∙ f.closed keeps (none z) k x u s (ap is_some (sym (same keeps (k, s))) ∙ i) aim q n;
  noted_right = λ node tag key number e. f.noted_right node tag key number (notes node tag key number e);
  noted_closed = λ keeps z node tag key number e form nodes is stream part u lt q n.
      ap is_some (same keeps q) ∙ f.noted_closed keeps (none z) node tag key number (notes node tag key number e) form nodes is stream part u lt q n;
  contexts = f.contexts;
}
  where
    there : (k : DatonAt) (o : Option PlainValue) → g k.0 k.1 ≡ o → IsSome (g k.0 k.1) → IsSome (h k.0 k.1)
    there k None e i = absurd (true≢false (sym i ∙ ap is_some e))
    there k (Some v) e i = ap is_some (drops k v e)

-- Contexts that the root enters become known.
pub stock_enters :
    (d : Demand) (b : Elements) (old new : List Context) (h : Holding) (lost : ℕ) (noted : Noted) → StockFacts d b old h lost noted → KeepsKnown old new
    → ((c : Context) → In c new → In c old ⊎ IsEntered d b c) → StockFacts d b new h lost noted
stock_enters d b old new h lost noted f keeps enters = record {
  right = f.right;
  stays = f.stays;
  traced = f.traced;
  closed = f.closed;
  noted_right = λ node tag key number e. again node tag key number (f.noted_right node tag key number e);
  noted_closed = λ k z node tag key number e form nodes is stream part u lt.
      subst (λ c. NeedsHeld (equations_of (table_of d)) b h (node_at (table_of d) stream) c u (space_of tag)) (sym (same node tag key number e))
      (f.noted_closed k z node tag key number e form nodes is stream part u lt);
  contexts = λ c i. elim (enters c i) [ inl o ↦ f.contexts c o | inr e ↦ inr e ];
}
  where
    same : (node : ℕ) (tag : Tag) (key number : ℕ) → number_at noted node tag key ≡ Some number → context_of new tag ≡ context_of old tag
    same node tag key number e = keeps.same tag (f.noted_right node tag key number e).known_tag

    again : (node : ℕ) (tag : Tag) (key number : ℕ) → NotedRight (table_of d) b old node tag key number → NotedRight (table_of d) b new node tag key number
    again node tag key number r = record {
      form = r.form;
      nodes = r.nodes;
      is = r.is;
      search = r.search;
      known_tag = keeps.known tag r.known_tag;
      stream = r.stream;
      part = r.part;
      counted = subst (λ c. Counted (equations_of (table_of d)) b (node_at (table_of d) r.stream) c (space_of tag) (cursor_noted r.form key number).time
          (cursor_noted r.form key number).count)
          (sym (keeps.same tag r.known_tag)) r.counted;
    }
