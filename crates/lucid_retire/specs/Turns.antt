-- What a turn of a policy does to a warehouse. All of it is this project's own.
use Rattle.std.specs.Prelude.{◌≡◌, ℕ, ◌≤◌, Bool, IsTrue, Option, Some, None}
use Rattle.lucid_value.specs.Plain.{PlainValue}
use Rattle.lucid_tags.specs.declared.Key.{Key}
use Rattle.lucid_store.specs.Stored.{Stored}
use Rattle.lucid_store.specs.Entries.{held, count_of}

-- what is held afterwards was held before, with the same value
abbrev pub OnlyDrops : Stored → Stored → Type 0
OnlyDrops old new = (key : Key) (value : PlainValue) → held new key ≡ Some value → held old key ≡ Some value

-- each key has the value that it had, or none as before
abbrev pub DropsNothing : Stored → Stored → Type 0
DropsNothing old new = (key : Key) → held new key ≡ held old key

-- at most so many keys are held, if there is a number
abbrev pub HoldsAtMost : Option ℕ → Stored → Type 0
HoldsAtMost None w = Unit {0}
HoldsAtMost (Some n) w = count_of w ≤ n

-- a turn of a policy that keeps all, that empties, and that leaves at most so many
pub record IsTurn (keeps empties : Bool) (most : Option ℕ) (old new : Stored) : Type 0 where
  pub drops : OnlyDrops old new
  pub lost : new.lost ≡ old.lost
  pub kept : IsTrue keeps → DropsNothing old new
  pub emptied : IsTrue empties → count_of new ≡ 0
  pub limited : HoldsAtMost most new
