-- Waiting tasks as plain data: contexts stand in place of tags. All facts of tasks are said of these. That tasks wait in rows that
-- others pick from is this project's own; what a task is, is Wadge and Ashcroft's demand for a variable in a context at a time.
use Rattle.std.specs.Prelude.{◌≡◌, ℕ, List, [], ◌∷◌, Option, Some, None, IfSome, Bool, true, false, map, option_map}
use Rattle.std.specs.List.{list_all}
use Rattle.lucid_value.specs.Plain.{PlainValue}
use Rattle.lucid_value.specs.View.{plain}
use Rattle.lucid_tags.specs.Contexts.{Context}
use Rattle.lucid_tags.specs.Known.{IsKnown, context_of, space_of}
use Rattle.lucid_tags.specs.declared.Key.{Key}
use Rattle.lucid_tasks.specs.declared.Task.{Task}
use Rattle.lucid_tasks.specs.declared.Part.{Part}
use Rattle.lucid_tasks.specs.declared.Cursor.{Cursor}
use Rattle.lucid_tasks.specs.Rows as rows
use Rattle.lucid_tasks.specs.Rows.{TaskRow, Idle, Asked, Got, row_at, start}
use Rattle.lucid_equations.specs.Datons.{Daton}

-- a daton at a space: what a store holds the value of
abbrev pub DatonAt : Type 0
DatonAt = Daton × ℕ

-- One node, by its number, in a context at a point, and how many references deep it may still look.
pub record PlainTask : Type 0 where
  pub node : ℕ
  pub context : Context
  pub time : ℕ
  pub space : ℕ
  pub limit : ℕ

-- A part of a row is neither asked nor got; or a task in a slot was asked for it; or it has a value.
pub data PartState : Type 0 where
  idle : PartState
  asked : (slot : ℕ) → PartState
  got : PlainValue → PartState

-- A row: its task, the part of a row that it is to give a value to, where its search stands, the daton whose value its own is
-- to become, and its parts.
pub record PlainRow : Type 0 where
  pub task : PlainTask
  pub parent : Option Part
  pub cursor : Cursor
  pub key : Option DatonAt
  pub parts : List PartState

-- the rows by their slots
abbrev pub PlainRows : Type 0
PlainRows = (slot : ℕ) → Option PlainRow

-- the value that a part has
abbrev pub value_in : PartState → Option PlainValue
value_in idle = None
value_in (asked slot) = None
value_in (got v) = Some v

abbrev pub state_at : List PartState → ℕ → PartState
state_at [] i = idle
state_at (x ∷ xs) ℕ.zero = x
state_at (x ∷ xs) (ℕ.suc i) = state_at xs i

abbrev pub value_of_part : PlainRow → (index : ℕ) → Option PlainValue
value_of_part row i = value_in (state_at row.parts i)

-- a part that no task was asked for
abbrev pub is_free : PartState → Bool
is_free idle = true
is_free (asked slot) = false
is_free (got v) = true

-- the row waits for none of its parts
abbrev pub waits_for_none : PlainRow → Bool
waits_for_none row = list_all is_free row.parts

abbrev pub all_idle : List PartState
all_idle = idle ∷ idle ∷ idle ∷ []

-- a new row, whose value is to become that of this daton, or of none
abbrev pub new_row : PlainTask → Option Part → Option DatonAt → PlainRow
new_row task parent key = record { task = task; parent = parent; cursor = start; key = key; parts = all_idle }

-- the datons on the way from what was asked to a row: the one that it remembers, if any
abbrev pub key_list : Option DatonAt → List DatonAt
key_list None = []
key_list (Some k) = k ∷ []

-- How a row that has a tag is seen, where these contexts are known.
abbrev pub plain_task : List Context → Task → PlainTask
plain_task known x = record { node = x.node; context = context_of known x.tag; time = x.time; space = space_of x.tag; limit = x.depth }

abbrev pub plain_key : List Context → Key → DatonAt
plain_key known k = (record { name = k.name; context = context_of known k.tag; time = k.time }, space_of k.tag)

abbrev pub plain_state : rows.PartState → PartState
plain_state Idle = idle
plain_state (Asked slot) = asked slot
plain_state (Got v) = got (plain v)

abbrev pub plain_row : List Context → TaskRow → PlainRow
plain_row known row = record {
  task = plain_task known row.task;
  parent = row.parent;
  cursor = row.cursor;
  key = option_map (plain_key known) row.key;
  parts = map plain_state row.parts;
}

-- the rows of a forest
abbrev pub plain_rows : List Context → List (Option TaskRow) → PlainRows
plain_rows known rows slot = option_map (plain_row known) (row_at rows slot)

-- the tags of a row are known: its task's, and its key's if it has one
pub record AreTagsKnown (known : List Context) (row : TaskRow) : Type 0 where
  pub task : IsKnown known row.task.tag
  pub key_tag : IfSome row.key (λ k. IsKnown known k.tag)

-- the tags of all rows are known
abbrev pub AreRowsKnown : List Context → List (Option TaskRow) → Type 0
AreRowsKnown known rows = (slot : ℕ) (row : TaskRow) → row_at rows slot ≡ Some row → AreTagsKnown known row
