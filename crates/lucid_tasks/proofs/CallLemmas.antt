-- What a call makes of the list of ready rows.
use Rattle.lucid_tasks.proofs.Common.{◌≡◌, ◌≢◌, ℕ, Bool, true, false, cond, ◌==◌, List, [], ◌∷◌, ◌++◌, Option, Some, refl, sym, ap, subst, ◌∙◌, arith, true≢false, Part, Task, Key, is_listed, RiseFrom, TaskRow, row_at, is_ready, fresh, AreTasks, IsRow, IsPast, SetsOnly}
use Rattle.lucid_tasks.proofs.Cases.{chosen, chosen_other}
use Rattle.lucid_tasks.proofs.SlotLemmas.{listed_push, rise_push}
use Rattle.lucid_tasks.proofs.ForestLemmas.{ready_is_row}

left_true : (b x : Bool) → cond b false x ≡ true → x ≡ true
left_true true x h = absurd (true≢false (sym h))
left_true false x h = h

-- a task is asked for a part: its parent is taken from the list, and the new row put at its end
module _ (old mid : List (Option TaskRow)) (parent : Part) (slot : ℕ) (task : Task) (key : Option Key)
    (sets : SetsOnly old mid slot (Some (fresh task (Some parent) key))) (past : IsPast old slot)
    (some : IsRow old parent.slot) (ready : List ℕ) (t : AreTasks old ready) where
  apart : parent.slot ≢ slot
  apart e = let below = past parent.slot some in omega (arith, below, e)

  -- a parent that waited before isn't listed
  pub stays_listed : is_ready (row_at mid parent.slot) ≡ false → (q : ℕ) → is_listed ready q ≡ cond (q == parent.slot) false (is_listed ready q)
  stays_listed waits q = chosen q parent.slot (is_listed ready q) false (is_listed ready q)
      (λ e. ap (is_listed ready) e ∙ t.listed parent.slot
      ∙ ap is_ready (sym (sets parent.slot ∙ chosen_other parent.slot slot (Some (fresh task (Some parent) key)) (row_at old parent.slot) apart)) ∙ waits)
      (λ _. refl)

  pub pushed_after : (left after : List ℕ) → RiseFrom 0 left → ((q : ℕ) → is_listed left q ≡ cond (q == parent.slot) false (is_listed ready q))
      → after ≡ left ++ slot ∷ []
      → RiseFrom 0 after × ((q : ℕ) → is_listed after q ≡ cond (q == slot) true (cond (q == parent.slot) false (is_listed ready q)))
  pushed_after left after rising lists is = subst
      (λ xs. RiseFrom 0 xs × ((q : ℕ) → is_listed xs q ≡ cond (q == slot) true (cond (q == parent.slot) false (is_listed ready q)))) (sym is) (
        rise_push 0 left slot rising (omega arith)
            (λ q h. past q (ready_is_row (row_at old q) (sym (t.listed q) ∙ left_true (q == parent.slot) (is_listed ready q) (sym (lists q) ∙ h)))),
        λ q. listed_push left slot q ∙ ap (cond (q == slot) true) (lists q),
      )
