-- The policy that keeps what was touched last, and its turns. All of it is this project's own.
use Rattle.std.specs.Prelude.{◌≡◌, ℕ, ◌+◌, ◌<◌, ◌≤◌, ◌⊎◌, List, Some, None, IsSome, if◌then◌else◌, nat_lt}
use Rattle.std.specs.Map.{keys_of}
use Rattle.lucid_tags.specs.declared.Key.{Key}
use Rattle.lucid_store.specs.Stored.{Stored}
use Rattle.lucid_store.specs.Entries.{count_of, cleared, IsTouchedFirst, DropsFirst, DropsOldest}

-- how many keys the policy leaves at most
pub record Recency : Type 0 where
  pub room : ℕ

-- emptied where more than the room are held
abbrev pub cut_to_room : ℕ → Stored → Stored
cut_to_room room w = if nat_lt room (count_of w) then cleared w else w

-- the order is kept from then on, as the keys stand, unless there is no memory for that
abbrev pub IsBegun : Stored → Stored → Type 0
IsBegun old new = (new ≡ record old { order = Some (keys_of old.entries) }) ⊎ (new ≡ record old { order = None })

-- a turn where the order is kept, or can't be
pub record DropsOver (room : ℕ) (old new : Stored) : Type 0 where
  -- while at most the room are held, nothing is dropped
  pub stays : count_of old ≤ room → new ≡ old
  -- where one more is held, and the key put last is the one touched last, exactly the key goes that was touched longest ago
  pub oldest : (key : Key) (keys : List Key) → IsTouchedFirst old key keys → count_of old ≡ room + 1 → DropsFirst old new key keys
  -- where more are held, or the order isn't known, all go
  pub over : room < count_of old → (dropped : Stored) × DropsOldest old dropped × (new ≡ cut_to_room room dropped)

-- a turn
pub record IsRecencyTurn (room : ℕ) (old new : Stored) : Type 0 where
  pub begun : Stored
  pub begins : old.order ≡ None → IsBegun old begun
  pub goes_on : IsSome old.order → begun ≡ old
  pub drops : DropsOver room begun new
