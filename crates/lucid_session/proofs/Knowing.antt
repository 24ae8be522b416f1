-- What the engine of a run knows was entered, and when so much is known that it is cleared, so much was entered.
use Rattle.lucid_session.proofs.Common.{◌≡◌, ℕ, suc, ◌<◌, List, length, refl, sym, arith, ◌⊎◌, inl, inr, slice_index_or, In, AllDiffer, Elements, Context, root, IsOneForOne, equations_of, EngineView, most_known, Added, Start, of_run, IsEntered, MuchEntered, with_point}
use Rattle.std.proofs.Common.{[], ◌∷◌}
use Rattle.lucid_tree.proofs.Members.{fewer}
use Rattle.lucid_tags.specs.Contexts.{context_at}
use Rattle.lucid_equations.specs.Visits.{visited_contexts}
use Rattle.lucid_demand_steps.specs.Engine.{VisitsNew}
use Rattle.lucid_demand_steps.specs.Engine as facts
use Rattle.lucid_session.proofs.Lists.{in_flat}
use Rattle.lucid_session.proofs.Added.{at_once, so, both, of_items}

-- A list whose places are one for one has no item twice.
stands_at : (x : Context) (xs : List Context) → In x xs → (j : ℕ) × (j < length xs) × (slice_index_or xs j root ≡ x)
stands_at x [] i = absurd i
stands_at x (y ∷ ys) (inl e) = (0, omega arith, sym e)
stands_at x (y ∷ ys) (inr i) = let r = stands_at x ys i in (suc r.0, omega (arith, r.1), r.2)

all_differ : (xs : List Context) → ((i j : ℕ) → i < length xs → j < length xs → context_at xs i ≡ context_at xs j → i ≡ j) → AllDiffer xs
all_differ [] one = tt
all_differ (x ∷ xs) one = (
  λ i. let r = stands_at x xs i in let e : 0 ≡ suc r.0 = one 0 (suc r.0) (omega arith) (omega (arith, r.1)) (sym r.2) in absurd (omega (arith, e)),
  all_differ xs (λ i j h k e. let same : suc i ≡ suc j = one (suc i) (suc j) (omega (arith, h)) (omega (arith, k)) e in omega (arith, same)),
)

module _ (z : Start) (b : Elements) (D : (time space : ℕ) → Type 0) where
  abbrev AllEntered : (D : (time space : ℕ) → Type 0) → List Context → (added : ℕ) → Type 0
  AllEntered E known d = (c : Context) → In c known → (c ≡ root) ⊎ IsEntered z b E d c

  -- it was known before a demand at a point, or was entered then
  abbrev IsFrom : List Context → (time space : ℕ) → Context → ℕ → Type 0
  IsFrom known t s c d = In c known ⊎ In c (visited_contexts (equations_of z.table) b z.depth d t s)

  from : (e : EngineView) (t s : ℕ) (c : Context)
      → In c e.known ⊎ facts.ForSomeAdded (of_run z e) (λ d. In c (visited_contexts (equations_of z.table) b z.depth d t s))
      → Added z.policy.empties (IsFrom e.known t s c)
  from e t s c (inl i) = at_once z.policy.empties (IsFrom e.known t s c) (λ d. inl i)
  from e t s c (inr q) = record { added = q.added; none = q.none; holds = λ d le. inr (q.holds d le) }

  entered_by : (known : List Context) (t s d : ℕ) (c : Context) → AllEntered D known d → IsFrom known t s c d
      → (c ≡ root) ⊎ IsEntered z b (with_point D t s) d c
  entered_by known t s d c all (inl i) = elim (all c i) [ inl e ↦ inl e | inr j ↦ inr (j.0, j.1, inl j.2, j.3) ]
  entered_by known t s d c all (inr i) = inr (t, s, inr (refl, refl), i)

  -- All that is known after a demand was entered by then.
  pub known_more : (old new : EngineView) (t s : ℕ) → VisitsNew (of_run z old) (of_run z new) b z.depth t s → Added z.policy.empties (AllEntered D old.known)
      → Added z.policy.empties (AllEntered (with_point D t s) new.known)
  known_more old new t s visits was =
      so z.policy.empties (λ d. AllEntered D old.known d × ((c : Context) → In c new.known → IsFrom old.known t s c d))
      (AllEntered (with_point D t s) new.known)
      (λ d h c i. entered_by old.known t s d c h.0 (h.1 c i))
      (both z.policy.empties (AllEntered D old.known) (λ d. (c : Context) → In c new.known → IsFrom old.known t s c d) was
      (of_items z.policy.empties (IsFrom old.known t s) new.known (λ c i. from old t s c (visits.known c i))))

  -- Where more than a million contexts are known, more than 999,999 were entered.
  pub much_entered : (known : List Context) → IsOneForOne known → most_known < length known → Added z.policy.empties (AllEntered D known)
      → Added z.policy.empties (MuchEntered z b D)
  much_entered known one much = so z.policy.empties (AllEntered D known) (MuchEntered z b D) (λ d all points has n h.
      omega (
        arith,
        much,
        h.size,
        fewer known (root ∷ h.items) (all_differ known one.places) (λ c i.
            elim (all c i) [
              | inl e ↦ inl e
              | inr j ↦ inr
                  (h.outside c (in_flat (λ (x : ℕ × ℕ). visited_contexts (equations_of z.table) b z.depth d x.0 x.1) c (j.0, j.1) points (has j.0 j.1 j.2) j.3))
            ]),
      ))
