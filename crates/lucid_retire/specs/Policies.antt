-- A policy has its member's meanings, and does as its member does.
use Rattle.std.specs.Prelude.{◌≡◌, ℕ, Bool, true, false, Option, Some, None}
use Rattle.lucid_store.specs.Stored.{Stored}
use Rattle.lucid_store.specs.Entries.{cleared}
use Rattle.lucid_retire.specs.declared.policy.Policy.{Policy}
use Rattle.lucid_retire.specs.declared.policy.Policy.TheVariants.{Keep, Nothing, Ages, Last}
use Rattle.lucid_retire.specs.Aging.{most_of, after_turn, IsAgesTurn}
use Rattle.lucid_retire.specs.Recency.{IsRecencyTurn}

abbrev pub keeps_all : Policy → Bool
keeps_all (Keep k) = true
keeps_all (Nothing n) = false
keeps_all (Ages a) = false
keeps_all (Last r) = false

abbrev pub empties_all : Policy → Bool
empties_all (Keep k) = false
empties_all (Nothing n) = true
empties_all (Ages a) = false
empties_all (Last r) = false

abbrev pub most_held : Policy → Option ℕ
most_held (Keep k) = None
most_held (Nothing n) = Some 0
most_held (Ages a) = Some (most_of a)
most_held (Last r) = Some r.room

-- a turn of the member
abbrev pub IsPolicyTurn : Policy → Policy → Stored → Stored → Type 0
IsPolicyTurn (Keep k) after old new = (after ≡ Keep k) × (new ≡ old)
IsPolicyTurn (Nothing n) after old new = (after ≡ Nothing n) × (new ≡ cleared old)
IsPolicyTurn (Ages a) after old new = (after ≡ Ages (after_turn a)) × IsAgesTurn a old new
IsPolicyTurn (Last r) after old new = (after ≡ Last r) × IsRecencyTurn r.room old new
