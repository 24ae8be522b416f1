-- What a step does to rows and to what is held, pointwise.
use Rattle.std.specs.Prelude.{◌≡◌, ℕ, ◌+◌, ◌≤◌, Bool, ◌==◌, ◌&&◌, Option, Some, None, if◌then◌else◌, option_map, slice_set}
use Rattle.lucid_value.specs.declared.Value.{Value}
use Rattle.lucid_value.specs.Plain.{PlainValue}
use Rattle.lucid_tags.specs.declared.Key.{Key}
use Rattle.lucid_store.specs.Stored.{Stored}
use Rattle.lucid_store.specs.Entries.{SetsOnly, count_of, fresh, one_more_lost}
use Rattle.lucid_tasks.specs.declared.Part.{Part}
use Rattle.lucid_tasks.specs.declared.Cursor.{Cursor}
use Rattle.lucid_demand_steps.specs.Tasks.{PlainTask, PlainRow, PlainRows, DatonAt, PartState, asked, got, all_idle, new_row}
use Rattle.lucid_demand_steps.specs.Stands.{Holding}
use Rattle.lucid_equations.specs.Datons.{same_daton}

abbrev pub with_part : ℕ → PartState → PlainRow → PlainRow
with_part i x r = record r { parts = slice_set r.parts i x }

-- a search that goes on: nothing is got at the new cursor
abbrev pub at_cursor : Cursor → PlainRow → PlainRow
at_cursor c r = record r { cursor = c; parts = all_idle }

-- the slot has this row, or none, and every other slot the row that it had
abbrev pub SetsRow : PlainRows → PlainRows → (slot : ℕ) → Option PlainRow → Type 0
SetsRow old new slot row = (q : ℕ) → new q ≡ (if q == slot then row else old q)

-- the row in the slot is changed so
abbrev pub ChangesRow : PlainRows → PlainRows → (slot : ℕ) → (PlainRow → PlainRow) → Type 0
ChangesRow old new slot f = (q : ℕ) → new q ≡ (if q == slot then option_map f (old q) else old q)

-- a part that waits for a child, if any does
abbrev pub waits_for : Option Part → (child slot : ℕ) → Option PlainRow → Option PlainRow
waits_for None child q row = row
waits_for (Some part) child q row = if q == part.slot then option_map (with_part part.index (asked child)) row else row

-- a new row in a slot, asked for a part or as the root, which remembers a daton or none
abbrev pub AsksRow : PlainRows → PlainRows → Option Part → (slot : ℕ) → PlainTask → Option DatonAt → Type 0
AsksRow old new part slot x key = (q : ℕ) → new q ≡ (if q == slot then Some (new_row x part key) else waits_for part slot q (old q))

-- a value for the part that a row was asked for
abbrev pub given_to : Option Part → PlainValue → (slot : ℕ) → Option PlainRow → Option PlainRow
given_to None v q row = row
given_to (Some part) v q row = if q == part.slot then option_map (with_part part.index (got v)) row else row

-- the row is gone, and its parent, if it has one, has the value
abbrev pub SettlesRow : PlainRows → PlainRows → (slot : ℕ) → PlainRow → PlainValue → Type 0
SettlesRow old new slot r v = (q : ℕ) → new q ≡ (if q == slot then None else given_to r.parent v q (old q))

abbrev pub is_daton : DatonAt → DatonAt → Bool
is_daton a b = same_daton a.0 b.0 && (a.1 == b.1)

-- the daton has the value, and every other what it had
abbrev pub PutsDaton : Holding → Holding → DatonAt → PlainValue → Type 0
PutsDaton old new k v = (q : DatonAt) → new q.0 q.1 ≡ (if is_daton k q then Some v else old q.0 q.1)

-- A value is put under a key; or it is lost for want of memory, and counted.
pub data PutsOrLoses (old new : Stored) (key : Key) (v : Value) : Type 0 where
  puts : SetsOnly old new key (Some (fresh v)) → new.lost ≡ old.lost → count_of new ≤ count_of old + 1 → PutsOrLoses old new key v
  loses : new ≡ one_more_lost old → old.lost ≤ new.lost → PutsOrLoses old new key v
