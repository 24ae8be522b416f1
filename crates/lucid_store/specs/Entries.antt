-- The warehouse as a finite map from keys to a value and an age, and what each call makes of the map. All of it is this
-- project's own.
use Rattle.std.specs.Prelude.{◌≡◌, ◌⊎◌, ℕ, ◌+◌, ◌^◌, ◌-◌, ◌≤◌, List, [], ◌∷◌, Option, Some, None, Bool, not, IsSome, IfSome, is_some, if◌then◌else◌, option_map, option_and_then, length, min, nat_le}
use Rattle.std.specs.Map.{lookup, keys_of}
use Rattle.std.specs.List.{IsDistinct, list_any}
use Rattle.lucid_value.specs.declared.Value.{Value}
use Rattle.lucid_value.specs.Plain.{PlainValue}
use Rattle.lucid_value.specs.View.{plain}
use Rattle.lucid_tags.specs.declared.Key.{Key}
use Rattle.lucid_store.specs.Stored.{Entry, Stored}
use Rattle.lucid_tags.specs.Keys.{same_key}
use Rattle.lucid_store.specs.Touches.{last_item, to_end}

-- the value and the age that a key has, if it is held
abbrev pub entry_at : Stored → Key → Option Entry
entry_at w key = lookup (same_key key) w.entries

abbrev pub value_at : Stored → Key → Option Value
value_at w key = option_map (λ e. e.value) (entry_at w key)

-- the plain form of the value that a key has
abbrev pub held : Stored → Key → Option PlainValue
held w key = option_map plain (value_at w key)

abbrev pub age_at : Stored → Key → Option ℕ
age_at w key = option_map (λ e. e.age) (entry_at w key)

abbrev pub IsHeld : Stored → Key → Type 0
IsHeld w key = IsSome (entry_at w key)

-- how many keys are held
abbrev pub count_of : Stored → ℕ
count_of w = length w.entries

-- no key is held twice
abbrev pub IsOneForEach : Stored → Type 0
IsOneForEach w = IsDistinct same_key (keys_of w.entries)

-- the key last touched is held
abbrev pub TouchedIsHeld : Stored → Type 0
TouchedIsHeld w = IfSome w.touched (IsHeld w)

-- nothing is held, nothing was lost, no key was touched, and no order is known
abbrev pub empty_warehouse : Stored
empty_warehouse = record { entries = []; lost = 0; touched = None; order = None }

-- a value that was just touched
abbrev pub fresh : Value → Entry
fresh value = record { value = value; age = 0 }

-- an entry that was just touched
abbrev pub renewed : Entry → Entry
renewed e = record e { age = 0 }

-- the key has this entry, or none, and every other key has what it had
abbrev pub SetsOnly : Stored → Stored → Key → Option Entry → Type 0
SetsOnly old new key entry = (q : Key) → entry_at new q ≡ (if same_key key q then entry else entry_at old q)

-- the order, where it is known, once a key is touched
abbrev pub order_touched : Key → Option (List Key) → Option (List Key)
order_touched key order = option_map (to_end key) order

-- a look-up of a key: where it is held, its age becomes 0 and it is the key last touched
pub record IsTouched (old new : Stored) (key : Key) : Type 0 where
  pub entries : SetsOnly old new key (option_map renewed (entry_at old key))
  pub touched : new.touched ≡ (if is_some (entry_at old key) then Some key else old.touched)
  pub order : new.order ≡ (if is_some (entry_at old key) then order_touched key old.order else old.order)
  pub lost : new.lost ≡ old.lost
  pub count : count_of new ≡ count_of old

-- one more, up to the greatest 32-bit number
abbrev pub older : ℕ → ℕ
older age = min (age + 1) (2 ^ 32 - 1)

-- an entry that is one sweep older
abbrev pub aged : Entry → Entry
aged e = record e { age = older e.age }

-- an entry, unless its age is over the limit
abbrev pub within : ℕ → Entry → Option Entry
within limit e = if nat_le e.age limit then Some e else None

-- an entry after a sweep: one older, and gone where that is over the limit
abbrev pub swept : ℕ → Entry → Option Entry
swept limit e = within limit (aged e)

-- the key last touched, forgotten unless it passes the test
abbrev pub touched_if : (Key → Bool) → Option Key → Option Key
touched_if test None = None
touched_if test (Some key) = if test key then Some key else None

-- a sweep: every age rises by one, and what is then older than the limit is gone; the order is no longer known
pub record IsSwept (limit : ℕ) (old new : Stored) : Type 0 where
  pub entries : (q : Key) → entry_at new q ≡ option_and_then (swept limit) (entry_at old q)
  pub touched : new.touched ≡ touched_if (λ key. is_some (entry_at new key)) old.touched
  pub lost : new.lost ≡ old.lost
  pub count : count_of new ≤ count_of old
  pub order : new.order ≡ None

-- one more, up to the greatest 64-bit number
abbrev pub one_more_lost : Stored → Stored
one_more_lost w = record w { lost = min (w.lost + 1) (2 ^ 64 - 1) }

-- nothing is held any more, and no order is known
abbrev pub cleared : Stored → Stored
cleared w = record w { entries = []; touched = None; order = None }

-- the keys of an order are the held keys, each once
pub record IsOrderOfHeld (w : Stored) (keys : List Key) : Type 0 where
  pub held : (q : Key) → is_some (entry_at w q) ≡ list_any (same_key q) keys
  pub distinct : IsDistinct same_key keys

-- the key at the end of the entries, which was put last, is the one touched last
abbrev pub IsLatestLast : Stored → List Key → Type 0
IsLatestLast w keys = last_item keys ≡ last_item (keys_of w.entries)

-- the order is known, this key was touched first, these in their order after it, and the key put last is the one touched last
abbrev pub IsTouchedFirst : Stored → Key → List Key → Type 0
IsTouchedFirst w key keys = (w.order ≡ Some (key ∷ keys)) × IsLatestLast w (key ∷ keys)

-- the key touched first goes, and the order of the others stays
pub record DropsFirst (old new : Stored) (key : Key) (keys : List Key) : Type 0 where
  pub entries : SetsOnly old new key None
  pub count : count_of new + 1 ≡ count_of old
  pub order : new.order ≡ Some keys
  pub touched : new.touched ≡ touched_if (λ q. not (same_key key q)) old.touched
  pub lost : new.lost ≡ old.lost

-- The key touched first goes, where the order is known and the key put last is the one touched last. Else nothing is held any more.
abbrev pub DropsOldest : Stored → Stored → Type 0
DropsOldest old new =
    ((key : Key) × (keys : List Key) × IsTouchedFirst old key keys × DropsFirst old new key keys)
    ⊎ (((key : Key) (keys : List Key) → ¬ IsTouchedFirst old key keys) × (new ≡ cleared old))
