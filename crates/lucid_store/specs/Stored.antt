-- A warehouse as its callers see it.
use Rattle.std.specs.Prelude.{ℕ, List, Option}
use Rattle.lucid_value.specs.declared.Value.{Value}
use Rattle.lucid_tags.specs.declared.Key.{Key}

-- a value that is held, and the number of sweeps since it was last touched
pub record Entry : Type 0 where
  pub value : Value
  pub age : ℕ

-- what is held, each key with its value and its age, how many values were lost for want of memory, and the key last touched; and the held keys
-- in the order of their last touches, the latest last, where that order is known
pub record Stored : Type 0 where
  pub entries : List (Key × Entry)
  pub lost : ℕ
  pub touched : Option Key
  pub order : Option (List Key)
