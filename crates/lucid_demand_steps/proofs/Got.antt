-- What is got of a part is the part's value, and a part of a ready row without one is idle.
use Rattle.lucid_demand_steps.proofs.DecidingCommon.{ℕ, zero, suc, List, [], ◌∷◌, Option, None, refl, ◌∙◌, slice_index_or, list_all, plain, Context, TaskRow, got_of, value_of_part, plain_row, map}
use Rattle.std.proofs.Common.{◌≡◌, Some}
use Rattle.std.specs.Prelude.{true, option_map}
use Rattle.lucid_tasks.specs.Rows as rows
use Rattle.lucid_tasks.specs.Rows.{got_value, Idle, Asked, Got}
use Rattle.lucid_demand_steps.specs.Tasks.{value_in, idle, state_at, plain_state}

-- the value of a part, seen plain
value_there : (ps : List rows.PartState) (i : ℕ) → value_in (state_at (map plain_state ps) i) ≡ option_map plain (got_value (slice_index_or ps i Idle))
value_there (Idle ∷ ps) zero = refl
value_there (x ∷ ps) (suc i) = value_there ps i
value_there ps i = refl

pub value_is_got : (known : List Context) (forest : List (Option TaskRow)) (slot : ℕ) (row : TaskRow) (i : ℕ) → rows.row_at forest slot ≡ Some row
    → value_of_part (plain_row known row) i ≡ option_map plain (got_of forest (record { slot = slot; index = i }))
value_is_got known forest slot row i e = value_there row.parts i ∙ rw e refl

-- a part of a ready row that has no value is idle
idle_there : (ps : List rows.PartState) (i : ℕ) → list_all rows.is_free ps ≡ true → value_in (state_at (map plain_state ps) i) ≡ None
    → state_at (map plain_state ps) i ≡ idle
idle_there [] i h e = refl
idle_there (Idle ∷ ps) zero h e = refl
idle_there (Asked s ∷ ps) zero h e = absurd (cc)
idle_there (Got v ∷ ps) zero h e = absurd (cc)
idle_there (Idle ∷ ps) (suc i) h e = idle_there ps i h e
idle_there (Asked s ∷ ps) (suc i) h e = absurd (cc)
idle_there (Got v ∷ ps) (suc i) h e = idle_there ps i h e

pub none_is_idle : (known : List Context) (row : TaskRow) (i : ℕ) → rows.is_ready (Some row) ≡ true → value_of_part (plain_row known row) i ≡ None
    → state_at (plain_row known row).parts i ≡ idle
none_is_idle known row i ready e = idle_there row.parts i ready e
