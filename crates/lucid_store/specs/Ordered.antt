-- A warehouse from its parts: the entries, and the places of their keys in the order of touches.
use Rattle.std.specs.Prelude.{◌≡◌, ℕ, ◌+◌, ◌-◌, ◌^◌, ◌<◌, ◌⊎◌, List, Option, Some, IsSome, length, option_map, slice_get}
use Rattle.std.specs.Map.{lookup, keys_of}
use Rattle.lucid_tags.specs.declared.Key.{Key}
use Rattle.lucid_tags.specs.Keys.{same_key}
use Rattle.lucid_store.specs.Stored.{Entry, Stored}
use Rattle.lucid_store.specs.Touches.{Touches, IsOrderOf, keys_at, last_item}

-- the keys in the order of touches
abbrev pub ordered_keys : List (Key × Entry) → Option Touches → Option (List Key)
ordered_keys entries order = option_map (λ t. keys_at (keys_of entries) t.places) order

-- the warehouse of these parts
abbrev pub seen : List (Key × Entry) → ℕ → Option Key → Option Touches → Stored
seen entries lost touched order = record { entries = entries; lost = lost; touched = touched; order = ordered_keys entries order }

-- a key has an entry
abbrev pub IsEntryHeld : List (Key × Entry) → Key → Type 0
IsEntryHeld entries key = IsSome (lookup (same_key key) entries)

-- the order has each entry's place once
pub record IsOrderOfEntries (entries : List (Key × Entry)) (t : Touches) : Type 0 where
  pub count : t.count ≡ length entries
  pub order : IsOrderOf t.count t.places

-- the places and their count, whatever the room
abbrev pub placed : Touches → List ℕ × ℕ
placed t = (t.places, t.count)

-- there is room for one place more
abbrev pub HasRoom : Touches → Type 0
HasRoom t = (t.count < t.room) × (t.count + 1 < 2 ^ 64)

-- a place may be touched: it is one of the places, or the next one, for which there is room
abbrev pub MayTouch : ℕ → Touches → Type 0
MayTouch place t = (place < t.count) ⊎ ((place ≡ t.count) × HasRoom t)

-- the place was touched first, and the last place is the latest
pub record IsFirstPlace (place : ℕ) (t : Touches) : Type 0 where
  pub first : slice_get t.places 0 ≡ Some place
  pub last : last_item t.places ≡ Some (t.count - 1)
  pub some : 0 < t.count
