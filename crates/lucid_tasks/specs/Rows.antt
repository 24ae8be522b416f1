-- Waiting tasks as a finite map from slots to rows, and what each call makes of it. All of it is this project's own.
use Rattle.std.specs.Prelude.{◌≡◌, ◌≢◌, ℕ, ◌<◌, List, [], ◌∷◌, Option, Some, None, Bool, true, false, ◌==◌, if◌then◌else◌, IsSome, length, option_map, option_and_then, slice_get, slice_index_or, slice_set}
use Rattle.std.specs.Option.{option_flatten}
use Rattle.std.specs.List.{list_all}
use Rattle.lucid_value.specs.declared.Value.{Value}
use Rattle.lucid_tasks.specs.declared.Task.{Task}
use Rattle.lucid_tasks.specs.declared.Cursor.{Cursor}
use Rattle.lucid_tasks.specs.declared.Part.{Part}
use Rattle.lucid_tags.specs.declared.Key.{Key}
use Rattle.lucid_tasks.specs.Slots.{is_listed, RiseFrom}

-- A part of a row is idle; or a task was asked for it, whose row stands in a slot; or it has a value. It is never two of these.
pub data PartState : Type 0 where
  Idle : PartState
  Asked : (slot : ℕ) → PartState
  Got : (value : Value) → PartState

-- A row: what is asked for, the part that it is to give a value to, where its search stands if it has one, the key of the daton
-- whose value its own is to become, and its parts.
pub record TaskRow : Type 0 where
  pub task : Task
  pub parent : Option Part
  pub cursor : Cursor
  pub key : Option Key
  pub parts : List PartState

-- the row in a slot, if there is one
abbrev pub row_at : List (Option TaskRow) → ℕ → Option TaskRow
row_at rows slot = option_flatten (slice_get rows slot)

abbrev pub IsRow : List (Option TaskRow) → ℕ → Type 0
IsRow rows slot = IsSome (row_at rows slot)

-- the slot of the task that was asked for a part, if that is how the part stands
abbrev pub asked_slot : PartState → Option ℕ
asked_slot Idle = None
asked_slot (Asked slot) = Some slot
asked_slot (Got value) = None

-- the value of a part, if that is how the part stands
abbrev pub got_value : PartState → Option Value
got_value Idle = None
got_value (Asked slot) = None
got_value (Got value) = Some value

-- a part that no task is asked for
abbrev pub is_free : PartState → Bool
is_free Idle = true
is_free (Asked slot) = false
is_free (Got value) = true

-- how a part of a row stands
abbrev pub state_at : ℕ → TaskRow → PartState
state_at index row = slice_index_or row.parts index Idle

-- the same by the part
abbrev pub state_of : List (Option TaskRow) → Part → Option PartState
state_of rows part = option_map (state_at part.index) (row_at rows part.slot)

-- the slot of the task that was asked for a part, if one was
abbrev pub child_of : List (Option TaskRow) → Part → Option ℕ
child_of rows part = option_and_then asked_slot (state_of rows part)

-- the value of a part, if it has one
abbrev pub got_of : List (Option TaskRow) → Part → Option Value
got_of rows part = option_and_then got_value (state_of rows part)

-- the part that the task in a slot was asked for, if there is one
abbrev pub parent_of : List (Option TaskRow) → ℕ → Option Part
parent_of rows slot = option_and_then (λ row. row.parent) (row_at rows slot)

-- the key of the daton whose value that of the task in a slot is to become, if there is one
abbrev pub key_of : List (Option TaskRow) → ℕ → Option Key
key_of rows slot = option_and_then (λ row. row.key) (row_at rows slot)

-- a row that waits for none of its parts
abbrev pub is_ready : Option TaskRow → Bool
is_ready None = false
is_ready (Some row) = list_all is_free row.parts

-- the same by the other rows: a row that is no row's parent
pub record IsReady (rows : List (Option TaskRow)) (slot : ℕ) : Type 0 where
  pub row : IsRow rows slot
  pub free : (child : ℕ) (part : Part) → parent_of rows child ≡ Some part → part.slot ≢ slot

-- a parent is a row that has asked the task for the part, one of three, and is older; a task that was asked is a row with
-- this parent
pub record IsForest (rows : List (Option TaskRow)) : Type 0 where
  pub parent : (slot : ℕ) (part : Part) → parent_of rows slot ≡ Some part → child_of rows part ≡ Some slot
  pub child : (part : Part) (slot : ℕ) → child_of rows part ≡ Some slot → parent_of rows slot ≡ Some part
  pub older : (slot : ℕ) (part : Part) → parent_of rows slot ≡ Some part → part.slot < slot
  pub index : (slot : ℕ) (part : Part) → parent_of rows slot ≡ Some part → part.index < 3

-- each row has three parts
abbrev pub HaveThree : List (Option TaskRow) → Type 0
HaveThree rows = (slot : ℕ) (row : TaskRow) → row_at rows slot ≡ Some row → length row.parts ≡ 3

-- the rows are a forest, and the slots are those of the ready rows, in order
pub record AreTasks (rows : List (Option TaskRow)) (ready : List ℕ) : Type 0 where
  pub forest : IsForest rows
  pub rising : RiseFrom 0 ready
  pub listed : (slot : ℕ) → is_listed ready slot ≡ is_ready (row_at rows slot)
  pub three : HaveThree rows

abbrev pub all_idle : List PartState
all_idle = Idle ∷ Idle ∷ Idle ∷ []

-- where a search begins
abbrev pub start : Cursor
start = record { time = 0; count = 0 }

-- a new row: each part is idle, and the cursor is at 0, 0
abbrev pub fresh : Task → Option Part → Option Key → TaskRow
fresh task parent key = record { task = task; parent = parent; cursor = start; key = key; parts = all_idle }

-- the row with a part that stands so
abbrev pub with_part : ℕ → PartState → TaskRow → TaskRow
with_part index state row = record row { parts = slice_set row.parts index state }

-- how a part stands once its value, if it has one, was taken out
abbrev pub emptied : PartState → PartState
emptied Idle = Idle
emptied (Asked slot) = Asked slot
emptied (Got value) = Idle

-- the row without the value of a part
abbrev pub taken : ℕ → TaskRow → TaskRow
taken index row = with_part index (emptied (state_at index row)) row

abbrev pub with_cursor : Cursor → TaskRow → TaskRow
with_cursor cursor row = record row { cursor = cursor }

-- the part of a row that neither is asked nor has a value
pub record IsIdlePart (rows : List (Option TaskRow)) (part : Part) : Type 0 where
  pub row : IsRow rows part.slot
  pub index : part.index < 3
  pub idle : state_of rows part ≡ Some Idle

-- the slot has this row, or none, and every other slot the row that it had
abbrev pub SetsOnly : List (Option TaskRow) → List (Option TaskRow) → ℕ → Option TaskRow → Type 0
SetsOnly old new slot row = (q : ℕ) → row_at new q ≡ (if q == slot then row else row_at old q)

-- the row in the slot is changed, and every other slot has the row that it had
abbrev pub ChangesOnly : List (Option TaskRow) → List (Option TaskRow) → ℕ → (TaskRow → TaskRow) → Type 0
ChangesOnly old new slot change = (q : ℕ) → row_at new q ≡ (if q == slot then option_map change (row_at old q) else row_at old q)

-- a row once a part, if any, waits for a child: only the part's row changes
abbrev pub waiting : Option Part → (child slot : ℕ) → Option TaskRow → Option TaskRow
waiting None child slot row = row
waiting (Some part) child slot row = if slot == part.slot then option_map (with_part part.index (Asked child)) row else row

-- a new row stands in the slot, its parent, if it has one, waits for it, and every other slot has the row that it had
abbrev pub Asks : List (Option TaskRow) → List (Option TaskRow) → Option Part → ℕ → Task → Option Key → Type 0
Asks old new part slot task key = (q : ℕ) → row_at new q ≡ (if q == slot then Some (fresh task part key) else waiting part slot q (row_at old q))

-- a row once a value was given to a part, if to any: only the part's row changes
abbrev pub given : Option Part → Value → ℕ → Option TaskRow → Option TaskRow
given None value slot row = row
given (Some part) value slot row = if slot == part.slot then option_map (with_part part.index (Got value)) row else row

-- the part, if there is one, has the value, and every slot else the row that it had
abbrev pub Gives : List (Option TaskRow) → List (Option TaskRow) → Option Part → Value → Type 0
Gives old new part value = (q : ℕ) → row_at new q ≡ given part value q (row_at old q)

-- the row in the slot is gone, its parent, if it has one, has the value, and every other slot has the row that it had
abbrev pub Settles : List (Option TaskRow) → List (Option TaskRow) → ℕ → Value → Type 0
Settles old new slot value = (q : ℕ) → row_at new q ≡ (if q == slot then None else given (parent_of old slot) value q (row_at old q))

-- the value that comes back: only that of a task without a parent
abbrev pub returned : Option Part → Value → Option Value
returned None value = Some value
returned (Some part) value = None

-- the slot is past those of all rows
abbrev pub IsPast : List (Option TaskRow) → ℕ → Type 0
IsPast rows slot = (q : ℕ) → IsRow rows q → q < slot
