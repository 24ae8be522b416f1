-- The policy that drops by age, and its turns. All of it is this project's own.
use Rattle.std.specs.Prelude.{◌≡◌, ℕ, ◌+◌, ◌*◌, ◌≤◌, ◌⊎◌, Bool, true, false, MatchBool, List, length, Option, Some, None, if◌then◌else◌, ◌==◌, nat_lt}
use Rattle.std.specs.Set.{is_member}
use Rattle.lucid_tags.specs.declared.Key.{Key}
use Rattle.lucid_tags.specs.Keys.{same_key}
use Rattle.lucid_store.specs.Stored.{Stored}
use Rattle.lucid_store.specs.Entries.{entry_at, age_at, count_of, cleared, IsSwept, IsOneForEach}

-- a policy that sweeps every so many turns by an age limit, and how many turns it has taken since the last sweep
pub record Aging : Type 0 where
  pub every : ℕ
  pub limit : ℕ
  pub since : ℕ

-- how many keys it leaves at most
abbrev pub most_of : Aging → ℕ
most_of a = a.every * (a.limit + 1)

-- whether the number of the next turn, counted from 1, is a multiple of `every`
abbrev pub is_sweeping : Aging → Bool
is_sweeping a = a.since + 1 == a.every

abbrev pub after_turn : Aging → Aging
after_turn a = record a { since = if is_sweeping a then 0 else a.since + 1 }

-- emptied exactly where more are held than the policy leaves
abbrev pub cut_to_most : Aging → Stored → Stored
cut_to_most a w = if nat_lt (most_of a) (count_of w) then cleared w else w

-- a turn that doesn't empty the warehouse: it sweeps, if it is the time
abbrev pub IsSparingTurn : Aging → Stored → Stored → Type 0
IsSparingTurn a old new = MatchBool (is_sweeping a) (IsSwept a.limit old new) (new ≡ old)

-- a turn: it sweeps, if it is the time, and then empties a warehouse that holds too many
pub record IsAgesTurn (a : Aging) (old new : Stored) : Type 0 where
  pub swept : Stored
  pub sweeps : IsSparingTurn a old swept
  pub one_for_each : IsOneForEach swept
  pub cut : new ≡ cut_to_most a swept

-- a held key was touched as many sweeps ago as its age says, and that is within the limit
abbrev pub IsAccounted : Aging → (ℕ → List Key) → Key → Option ℕ → Type 0
IsAccounted a touches key None = Unit {0}
IsAccounted a touches key (Some age) = (age ≤ a.limit) × (is_member same_key (touches age) key ≡ true)

-- a warehouse that began empty, in which at most one key is touched between two turns: for each number of sweeps there is the list of the keys that were touched so many sweeps ago, at most one for each turn, and it accounts for each held key
pub record IsPaced (a : Aging) (w : Stored) : Type 0 where
  pub touches : ℕ → List Key
  pub latest : length (touches 0) ≤ a.since
  pub each : (sweeps : ℕ) → length (touches sweeps) ≤ a.every
  pub accounts : (q : Key) → IsAccounted a touches q (age_at w q)

-- at most this key is touched, so that its age is 0; any key may be removed
pub record TouchesOne (key : Key) (old new : Stored) : Type 0 where
  pub touched : (entry_at new key ≡ None) ⊎ ((entry_at new key ≡ entry_at old key) ⊎ (age_at new key ≡ Some 0))
  pub others : (q : Key) → same_key key q ≡ false → (entry_at new q ≡ None) ⊎ (entry_at new q ≡ entry_at old q)
