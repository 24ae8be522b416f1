-- Lists of slots.
use Rattle.std.specs.Prelude.{ℕ, suc, ◌≤◌, List, [], ◌∷◌, Bool, ◌==◌}
use Rattle.std.specs.List.{list_any}

-- whether a slot is in the list
abbrev pub is_listed : List ℕ → ℕ → Bool
is_listed slots slot = list_any (λ s. s == slot) slots

-- each slot is above the one before it, and the first is at least `low`
abbrev pub RiseFrom : ℕ → List ℕ → Type 0
RiseFrom low [] = Unit {0}
RiseFrom low (s ∷ slots) = (low ≤ s) × RiseFrom (suc s) slots
