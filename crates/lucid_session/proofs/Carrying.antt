-- The figures of a table's run are those of what the table stands for.
use Rattle.lucid_session.proofs.Common.{◌≡◌, ℕ, ◌<◌, Bool, true, false, cond, List, Option, None, refl, sym, ap, ◌∙◌, subst, inl, inr, arith, Result, Ok, Err, IsTrue, IsSome, IfOk, if◌then◌else◌, option_map, Decides, not_from_Decides, same_Some, PlainValue, In, Elements, HoldsExactly, referred, valued_of, Context, root, Daton, node_val, eqval, visits, visited_values, HasDistinct, Points, valued_datons, equations_of, Table, reached, Summary, RunFault, RunView, ForSomeAdded, Counted, root_counted, ArePointsBelow, ArePointsBefore, IsDefinedAt, IsUndefinedHeld, times_of, Figures, HasMoreThan, OnClearings, OnDepth, ◌==◌, ◌&&◌, filter_map, cons_option, Decides-eqb, Decides-and}
use Rattle.std.proofs.Common.{[], ◌∷◌, Some}
use Rattle.lucid_lists.proofs.Options.{value_there as some_value}
use Rattle.lucid_tree.specs.Levels.{goes_to, Event, looked_up, entered}
use Rattle.lucid_tree.specs.Env.{Referent, Env}
use Rattle.lucid_tags.specs.Contexts.{same_context}
use Rattle.lucid_tags.specs.EqualityDecides.{same_context_is_equality}
use Rattle.lucid_equations.specs.Nodes.{Equations}
use Rattle.lucid_equations.specs.Datons.{same_daton, NodePosition, NodeAim, daton_aim}
use Rattle.lucid_equations.specs.Visits.{NodeEvents}
use Rattle.lucid_equations.proofs.SameDatons.{same-daton}
use Rattle.lucid_ports.specs.declared.run.RunFault.TheVariants.{TooDeep}
use Rattle.lucid_session.specs.Figures.{Layout}
use Rattle.lucid_session.specs.Laws.{StandsFor, FiguresCarry}
use Rattle.lucid_session.proofs.Counting.{counted}
use Rattle.lucid_session.proofs.Lists.{from_flat}

-- one value at most is listed of each daton at a space
abbrev IsOnce : List (Daton × ℕ × PlainValue) → Type 0
IsOnce xs = (k : Daton) (s : ℕ) (v w : PlainValue) → In (k, s, v) xs → In (k, s, w) xs → v ≡ w

-- the first value that is listed of a daton at a space
abbrev listed : List (Daton × ℕ × PlainValue) → Daton → ℕ → Option PlainValue
listed [] k s = None
listed (x ∷ xs) k s = if same_daton k x.0 && (s == x.1) then Some x.2 else listed xs k s

same_place : (k : Daton) (s : ℕ) (x : Daton × ℕ × PlainValue) → Decides (same_daton k x.0 && (s == x.1)) ((k ≡ x.0) × (s ≡ x.1))
same_place k s x = Decides-and (same_daton k x.0) (s == x.1) (same-daton k x.0) (Decides-eqb s x.1)

is_listed : (xs : List (Daton × ℕ × PlainValue)) (k : Daton) (s : ℕ) (v : PlainValue) → listed xs k s ≡ Some v → In (k, s, v) xs
is_listed [] k s v e = absurd (cc)
is_listed (x ∷ xs) k s v e = by (is_listed xs k s v) (same_daton k x.0 && (s == x.1)) refl e
  where
    by : (listed xs k s ≡ Some v → In (k, s, v) xs) → (t : Bool) → same_daton k x.0 && (s == x.1) ≡ t → cond t (Some x.2) (listed xs k s) ≡ Some v
        → In (k, s, v) (x ∷ xs)
    by more true h i = let at = (same_place k s x).0 h in let value : v ≡ x.2 = cc in inl (λ j. (at.0 j, at.1 j, value j))
    by more false h i = inr (more i)

is_there : (xs : List (Daton × ℕ × PlainValue)) (k : Daton) (s : ℕ) (v : PlainValue) → In (k, s, v) xs → (w : PlainValue) × (listed xs k s ≡ Some w)
is_there [] k s v i = absurd i
is_there (x ∷ xs) k s v i = by (is_there xs k s v) (same_daton k x.0 && (s == x.1)) refl i
  where
    by : (In (k, s, v) xs → (w : PlainValue) × (listed xs k s ≡ Some w)) → (t : Bool) → same_daton k x.0 && (s == x.1) ≡ t → In (k, s, v) (x ∷ xs)
        → (w : PlainValue) × (cond t (Some x.2) (listed xs k s) ≡ Some w)
    by more true h i = (x.2, refl)
    by more false h (inl e) = absurd (not_from_Decides (same_daton k x.0 && (s == x.1)) (same_place k s x) h (ap (λ z. z.0) e, ap (λ z. z.1) e))
    by more false h (inr i) = more i

-- what is listed once is held exactly by the look-up
holds_listed : (xs : List (Daton × ℕ × PlainValue)) → IsOnce xs → HoldsExactly xs (listed xs)
holds_listed xs once k s v = (
  is_listed xs k s v,
  λ i. let r = is_there xs k s v i in r.1 ∙ ap Some (once k s r.0 v (is_listed xs k s r.0 r.1) i),
)

-- a daton with a value, as it was gone to
pub record WentTo (p : Equations) (b : Elements) (m : ℕ) (xs : NodeEvents) (k : Daton) (s : ℕ) (v : PlainValue) : Type 0 where
  pub position : NodePosition
  pub time : ℕ
  pub there : In (referred k position time s) xs
  pub value : node_val p b m position.node position.context time s ≡ Some v

-- the values of positions by an approximation
abbrev pub values_at : Equations → Elements → ℕ → NodePosition → ℕ → ℕ → Option PlainValue
values_at p b m x u r = node_val p b m x.node x.context u r

-- A value that is listed with its daton at a space is that of where the daton was gone on.
pub went-to : (p : Equations) (b : Elements) (m : ℕ) (xs : NodeEvents) (k : Daton) (s : ℕ) (v : PlainValue)
    → In (k, s, v) (filter_map (valued_of (values_at p b m)) xs) → WentTo p b m xs k s v
went-to p b m [] k s v i = absurd i
went-to p b m (x ∷ xs) k s v i = by (went-to p b m xs k s v) x i
  where
    later : (x : Event Daton NodePosition Context) → WentTo p b m xs k s v → WentTo p b m (x ∷ xs) k s v
    later x w = record { position = w.position; time = w.time; there = inr w.there; value = w.value }

    at : (In (k, s, v) (filter_map (valued_of (values_at p b m)) xs) → WentTo p b m xs k s v) → (d : Daton) (y : NodePosition) (u r : ℕ) (o : Option PlainValue)
        → values_at p b m y u r ≡ o
        → In (k, s, v) (cons_option (option_map (λ w. (d, r, w)) o) (filter_map (valued_of (values_at p b m)) xs)) → WentTo p b m (referred d y u r ∷ xs) k s v
    at more d y u r None e i = later (referred d y u r) (more i)
    at more d y u r (Some w) e (inl h) =
        let daton : k ≡ d = ap (λ z. z.0) h in
        let space : s ≡ r = ap (λ z. z.1) h in
        let value : w ≡ v = ap (λ z. z.2) (sym h) in
        record { position = y; time = u; there = inl (λ i. referred (daton i) y u (space i)); value = ap (values_at p b m y u) space ∙ e ∙ ap Some value }
    at more d y u r (Some w) e (inr j) = later (referred d y u r) (more j)

    by : (In (k, s, v) (filter_map (valued_of (values_at p b m)) xs) → WentTo p b m xs k s v) → (x : Event Daton NodePosition Context)
        → In (k, s, v) (filter_map (valued_of (values_at p b m)) (x ∷ xs)) → WentTo p b m (x ∷ xs) k s v
    by more (looked_up n j) i = later (looked_up n j) (more i)
    by more (entered c) i = later (entered c) (more i)
    by more (referred d y u r) i = at more d y u r (values_at p b m y u r) refl i

abbrev place_in : NodePosition → NodeAim → NodePosition
place_in z (goes_to k y u) = y
place_in z _ = z

abbrev time_in : NodeAim → ℕ
time_in (goes_to k y u) = u
time_in _ = 0

-- a daton that was gone to goes on where it was gone on
pub goes_on : (T : Table) (b : Elements) (m t s : ℕ) (z : PlainValue) → eqval (equations_of T) b m t s ≡ Some z → (k : Daton) (r : ℕ) (v : PlainValue)
    → (w : WentTo (equations_of T) b m (visits (equations_of T) b m 0 t s) k r v) → daton_aim (equations_of T) k ≡ goes_to k w.position w.time
goes_on T b m t s z e k r v w = (reached (equations_of T) b k w.position w.time r m (equations_of T).root root t s z e w.there).goes

-- where the root has values, one value is listed of each daton at a space
values_once : (T : Table) (b : Elements) (m : ℕ) (points : Points) → ((t s : ℕ) → In (t, s) points → IsSome (eqval (equations_of T) b m t s))
    → IsOnce (valued_datons (equations_of T) b m points)
values_once T b m points defined k s v w i j =
    let x = from_flat (λ x. visited_values (equations_of T) b m x.0 x.1) (k, s, v) points i in
    let y = from_flat (λ x. visited_values (equations_of T) b m x.0 x.1) (k, s, w) points j in
    let p = went-to (equations_of T) b m (visits (equations_of T) b m 0 x.item.0 x.item.1) k s v x.gives in
    let q = went-to (equations_of T) b m (visits (equations_of T) b m 0 y.item.0 y.item.1) k s w y.gives in
    let f = some_value (eqval (equations_of T) b m x.item.0 x.item.1) (defined x.item.0 x.item.1 x.among) in
    let g = some_value (eqval (equations_of T) b m y.item.0 y.item.1) (defined y.item.0 y.item.1 y.among) in
    let aims : ◌≡◌ {A = NodeAim} (goes_to k p.position p.time) (goes_to k q.position q.time) =
    sym (goes_on T b m x.item.0 x.item.1 f.0 f.1 k s v p) ∙ goes_on T b m y.item.0 y.item.1 g.0 g.1 k s w q in
    same_Some _ _ (sym p.value ∙ (λ i. values_at (equations_of T) b m (ap (place_in p.position) aims i) (ap time_in aims i) s) ∙ q.value)

module _ (T : Table) (l : Layout) (D : Counted Referent Env) (stands : StandsFor (root_counted T l) D) (b : Elements) where
  defined_too : (m : ℕ) (points : Points) → IsDefinedAt D b m points → IsDefinedAt (root_counted T l) b m points
  defined_too m points defined t s i = subst (λ o. IsSome o) (sym (stands.values b m t s)) (defined t s i)

  -- what the values at points needed can be held
  kept : (m : ℕ) (points : Points) → IsDefinedAt D b m points
      → HoldsExactly (valued_datons (equations_of T) b m points) (listed (valued_datons (equations_of T) b m points))
  kept m points defined = holds_listed (valued_datons (equations_of T) b m points) (values_once T b m points (defined_too m points defined))

  -- values are demanded at the same points
  below_too : (w : ℕ) (points : Points) → ArePointsBelow D.layout b w points → ArePointsBelow l b w points
  below_too w points exactly t s = (
    (λ i. let p = (exactly t s).0 i in (p.0, (stands.demands b t s).1 p.1)),
    (λ p. (exactly t s).1 (p.0, (stands.demands b t s).0 p.1)),
  )

  before_too : (t s : ℕ) (points : Points) → ArePointsBefore D.layout b t s points → ArePointsBefore l b t s points
  before_too t s points exactly u r = (
    (λ i. let p = (exactly u r).0 i in (p.0, (stands.demands b u r).1 p.1)),
    (λ p. (exactly u r).1 (p.0, (stands.demands b u r).0 p.1)),
  )

  more_too : (few m d : ℕ) (points : Points) → HasMoreThan few ((root_counted T l).enters b m d points) → HasMoreThan few (D.enters b m d points)
  more_too few m d points more n h =
      let k = counted same_context same_context_is_equality ((root_counted T l).enters b m d points) in
      omega (arith, more k.0 k.1, stands.no_more b m d points n k.0 h k.1)

  -- too deep with all held that the values before needed
  undefined_too : (limit time : ℕ) → IsUndefinedHeld (root_counted T l) b limit time → IsUndefinedHeld D b limit time
  undefined_too limit time u = (
    u.0,
    (stands.demands b time u.0).0 u.1,
    λ points exactly m defined held all.
        let there = valued_datons (equations_of T) b m points in
        sym (stands.held b m points held (listed there) all (kept m points defined) limit time u.0)
        ∙ u.2 points (before_too time u.0 points exactly) m (defined_too m points defined) (listed there) (kept m points defined),
  )

  module _ (r : RunView) where
    held_too : (result : Result Summary RunFault) → Figures (root_counted T l) b r result → IsTrue r.policy.keeps
        → IfOk result (λ s. s.lost ≡ 0 → s.cleared ≡ 0 → (points : Points) → ArePointsBelow D.layout b (times_of s) points → (m : ℕ) → IsDefinedAt D b m points
        → HasDistinct (D.refers b m 0 points) s.held)
    held_too (Ok s) f keeps = λ lost cleared points exactly m defined.
        stands.as_many b m 0 points s.held (f.held keeps lost cleared points (below_too (times_of s) points exactly) m (defined_too m points defined))
    held_too (Err e) f keeps = tt

    deep_too : (result : Result Summary RunFault) → Figures (root_counted T l) b r result → IsTrue r.policy.keeps
        → OnDepth result (λ time lost cleared. lost ≡ 0 → cleared ≡ 0 → IsUndefinedHeld D b r.depth time)
    deep_too (Err (TooDeep time lost cleared)) f keeps = λ none again. undefined_too r.depth time (f.deep keeps none again)
    deep_too _ f keeps = tt

    some_added : (times : ℕ) → ForSomeAdded r (λ d. (points : Points) → ArePointsBelow l b times points
        → HasMoreThan 999999 ((root_counted T l).enters b r.depth d points))
        → ForSomeAdded r (λ d. (points : Points) → ArePointsBelow D.layout b times points → HasMoreThan 999999 (D.enters b r.depth d points))
    some_added times s = record {
      added = s.added;
      none = s.none;
      holds = λ d le points exactly. more_too 999999 r.depth d points (s.holds d le points (below_too times points exactly));
    }

    cleared_too : (result : Result Summary RunFault) → Figures (root_counted T l) b r result
        → OnClearings result (λ times cleared. 0 < cleared
        → ForSomeAdded r (λ d. (points : Points) → ArePointsBelow D.layout b times points → HasMoreThan 999999 (D.enters b r.depth d points)))
    cleared_too (Ok s) f = λ lt. some_added (times_of s) (f.cleared lt)
    cleared_too (Err (TooDeep time lost cleared)) f = λ lt. some_added (ℕ.suc time) (f.cleared lt)
    cleared_too _ f = tt

-- So the figures of a table are those of each subject for which it stands.
pub figures_too : FiguresCarry
figures_too T l D stands b r result f = record {
  held = held_too T l D stands b r result f;
  deep = deep_too T l D stands b r result f;
  cleared = cleared_too T l D stands b r result f;
}
