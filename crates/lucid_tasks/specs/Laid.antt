-- How rows lie in memory: rows of words in a list, and the values of their parts beside, by the part's number.
use Rattle.std.specs.Prelude.{◌≡◌, ℕ, zero, suc, ◌<◌, ◌≤◌, ◌+◌, ◌-◌, ◌*◌, ◌^◌, ◌==◌, List, [], ◌∷◌, length, Option, Some, None, true, if◌then◌else◌, slice_get, slice_index_or, option_map, option_and_then, IsSome}
use Rattle.std.specs.List.{list_all}
use Rattle.lucid_value.specs.declared.Value.{Value}
use Rattle.lucid_tasks.specs.declared.Part.{Part}
use Rattle.lucid_tags.specs.declared.Key.{Key}
use Rattle.lucid_tasks.specs.declared.rows.Row.{Row}
use Rattle.lucid_tasks.specs.Numbered.{value_at}
use Rattle.lucid_tasks.specs.Rows.{PartState, Idle, Asked, Got, TaskRow, is_ready}

-- the values of parts, by their numbers, and the number below which each part may have one
abbrev pub Values : Type 0
Values = List (ℕ × Value) × ℕ

-- the number of a part: parts of later rows are past those of earlier ones, and later parts of a row past earlier ones
abbrev pub part_number : ℕ → ℕ → ℕ
part_number slot index = 3 * slot + index

-- the slot that a word names: the word is one more, or 0 for none
abbrev pub named : ℕ → Option ℕ
named zero = None
named (suc slot) = Some slot

-- how a part stands, by the task that was asked for it and by its value
abbrev pub state : Option ℕ → Option Value → PartState
state (Some slot) got = Asked slot
state None (Some value) = Got value
state None None = Idle

-- how a part of the row in a slot stands
abbrev pub laid_state : List (ℕ × Value) → ℕ → Row → ℕ → PartState
laid_state values slot row index = state (named (slice_index_or row.asked index 0)) (value_at values (part_number slot index))

abbrev pub three_of : (ℕ → PartState) → List PartState
three_of f = f 0 ∷ f 1 ∷ f 2 ∷ []

-- the part that a row names as its parent
abbrev pub laid_parent : Row → Option Part
laid_parent row = option_map (λ s. record { slot = s; index = row.parent_index }) (named row.parent)

-- the key that a row remembers
abbrev pub laid_key : Row → Option Key
laid_key row = if row.keyed then Some row.key else None

-- a living row
abbrev pub laid : List (ℕ × Value) → ℕ → Row → TaskRow
laid values slot row = record {
  task = row.task;
  parent = laid_parent row;
  cursor = row.cursor;
  key = laid_key row;
  parts = three_of (laid_state values slot row);
}

-- the row that lies in a slot, if it lives
abbrev pub laid_row : List (ℕ × Value) → ℕ → Row → Option TaskRow
laid_row values slot row = if row.live then Some (laid values slot row) else None

-- the rows that lie from a slot on
abbrev pub laid_from : List (ℕ × Value) → ℕ → List Row → List (Option TaskRow)
laid_from values slot [] = []
laid_from values slot (row ∷ rows) = laid_row values slot row ∷ laid_from values (suc slot) rows

-- a row lives in the slot, and asked no task for the part
abbrev pub HasIdle : List Row → ℕ → ℕ → Type 0
HasIdle rows slot index = (row : Row) × ((slice_get rows slot ≡ Some row) × ((row.live ≡ true) × (slice_index_or row.asked index 0 ≡ 0)))

-- only a part of a living row that isn't asked has a value; there is room for the values of all parts, and slots are words
pub record AreLaid (rows : List Row) (values : Values) : Type 0 where
  pub owned : (slot index : ℕ) → index < 3 → IsSome (value_at values.0 (part_number slot index)) → HasIdle rows slot index
  pub three : (slot : ℕ) (row : Row) → slice_get rows slot ≡ Some row → length row.asked ≡ 3
  pub room : 3 * length rows ≤ values.1
  pub words : length rows < 2 ^ 32

-- how a row in memory shows the row that it is
pub record Shows (shown : Option TaskRow) (row : Row) : Type 0 where
  pub task : option_map (λ r. r.task) shown ≡ Some row.task
  pub parent : option_and_then (λ r. r.parent) shown ≡ laid_parent row
  pub cursor : option_map (λ r. r.cursor) shown ≡ Some row.cursor
  pub key : option_and_then (λ r. r.key) shown ≡ laid_key row
  pub ready : is_ready shown ≡ list_all (λ word. word == 0) row.asked
  pub three : length row.asked ≡ 3

-- the row in a slot in memory, if it lives
abbrev pub live_at : List Row → ℕ → Option Row
live_at rows slot = option_and_then (λ row. if row.live then Some row else None) (slice_get rows slot)

-- only ended rows are dropped, at the end
pub record Trims (old new : List Row) : Type 0 where
  pub live : (slot : ℕ) → live_at new slot ≡ live_at old slot
  pub same : (slot : ℕ) (row : Row) → slice_get new slot ≡ Some row → slice_get old slot ≡ Some row
  pub shorter : length new ≤ length old
