-- What a turn of the policy is noted as.
use Rattle.std.specs.Prelude.{◌≡◌, ℕ, ◌+◌, ◌-◌, ◌<◌, ◌≤◌, ◌++◌, ◌∷◌, ◌⊎◌, [], List, Option, Some, None, true, All, length, min, ◌^◌, nat_lt, option_map, slice_get, is_some, if◌then◌else◌}
use Rattle.std.specs.Option.{option_and_then}
use Rattle.lucid_tags.specs.declared.Key.{Key}
use Rattle.lucid_store.specs.Stored.{Stored}
use Rattle.lucid_store.specs.Entries.{held, count_of}
use Rattle.lucid_store.specs.Touches.{to_end}
use Rattle.lucid_retire.specs.declared.policy.Policy.{Policy}
use Rattle.lucid_retire.specs.Policies.{IsPolicyTurn}
use Rattle.lucid_show_steps.specs.Events.{PlainTouched, PlainEvent, turn, pick, left_out, plain_events}
use Rattle.lucid_show_steps.specs.declared.log.Log.{Log}

-- the same values are held under the same keys
pub record HoldsSame (old new : Stored) : Type 0 where
  pub held : (key : Key) → held new key ≡ held old key
  pub count : count_of new ≡ count_of old
  pub lost : new.lost ≡ old.lost

-- The key last touched, with its value. It was added where more keys are held than after the last turn.
abbrev pub touched_in : (count : ℕ) → Stored → Option PlainTouched
touched_in n w = option_and_then (λ key. option_map (λ value. record { key = key; value = value; added = nat_lt n (count_of w) }) (held w key)) w.touched

-- none of the keys is held
abbrev pub AreGone : Stored → List Key → Type 0
AreGone w keys = All (λ key. held w key ≡ None) keys

-- Of so many keys that were dropped these are told: the first of those that were touched longest ago, all held no longer. How many others there
-- are is told too. There are none, unless the next key is still held, or none is known.
pub record TellsDropped (count : ℕ) (keys keys_after : List Key) (w : Stored) (dropped : List Key) (more : ℕ) : Type 0 where
  pub first : keys ≡ dropped ++ keys_after
  pub gone : AreGone w dropped
  pub all : length dropped + more ≡ count
  pub rest : 0 < more → (key : Key) → slice_get keys_after 0 ≡ Some key → held w key ≡ None → ⊥

-- The policy had its turn, and nothing else was dropped.
pub record HasTurned (policy policy_after : Policy) (old new : Stored) : Type 0 where
  pub before : Stored
  pub after : Stored
  pub looked : HoldsSame old before
  pub turned : IsPolicyTurn policy policy_after before after
  pub kept : HoldsSame after new

-- what is noted so far
abbrev pub noted : Log → List PlainEvent
noted l = plain_events l.events.items

-- the keys with that which was touched behind the others
abbrev pub keys_touched : Option PlainTouched → List Key → List Key
keys_touched None keys = keys
keys_touched (Some t) keys = to_end t.key keys

-- A turn is noted, with what was touched before it and what was dropped: of these keys and notes before, and those after.
pub record NotesTurn (touched : Option PlainTouched) (count : ℕ) (w : Stored) (keys keys_after : List Key) (old new : List PlainEvent) : Type 0 where
  pub dropped : List Key
  pub more : ℕ
  pub told : TellsDropped count (keys_touched touched keys) keys_after w dropped more
  pub noted : new ≡ old ++ turn touched dropped more ∷ []

-- how many values a turn tells of: that which was touched, and those that were dropped
abbrev pub values_seen : Option PlainTouched → (count : ℕ) → ℕ
values_seen touched count = min (count + (if is_some touched then 1 else 0)) (2 ^ 64 - 1)

-- So many values are left out, which are counted: together with those that were left out just before.
pub data LeavesOut (count : ℕ) (old new : List PlainEvent) : Type 0 where
  none : count ≡ 0 → new ≡ old → LeavesOut count old new
  first : new ≡ old ++ left_out count ∷ [] → LeavesOut count old new
  again : (events : List PlainEvent) (before : ℕ) → old ≡ events ++ left_out before ∷ []
      → new ≡ events ++ left_out (min (before + count) (2 ^ 64 - 1)) ∷ [] → LeavesOut count old new

-- A turn is noted while there are fewer notes than this; of a later one it is counted what it tells of.
pub record NotesUpTo (most : ℕ) (touched : Option PlainTouched) (count : ℕ) (w : Stored) (keys keys_after : List Key) (old new : List PlainEvent) : Type 0 where
  pub notes : length old < most → NotesTurn touched count w keys keys_after old new
  pub counts : most ≤ length old → LeavesOut (values_seen touched count) old new

abbrev pub NotesOrCounts : Option PlainTouched → (count : ℕ) → Stored → (old new : Log) → Type 0
NotesOrCounts touched count w old new = NotesUpTo old.most touched count w old.keys.items new.keys.items (noted old) (noted new)

-- so it is, unless there was no memory for a note
abbrev pub UnlessLacking : Log → Type 0 → Type 0
UnlessLacking l P = (l.lacks ≡ true) ⊎ P

-- it is noted while there are fewer notes than there may be
abbrev pub NotesPick : (old new : Log) → Type 0
NotesPick old new = noted new ≡ (if nat_lt (length (noted old)) old.most then noted old ++ pick ∷ [] else noted old)
