-- Where a search begins and looks on.
use Rattle.std.specs.Prelude.{◌≡◌, ℕ, ◌<◌, ◌≤◌, List, Option, Some}
use Rattle.lucid_tasks.specs.declared.Cursor.{Cursor}
use Rattle.lucid_tasks.specs.Rows.{TaskRow, row_at, ChangesOnly, with_cursor}

-- The row in the slot stands at a cursor, and is else the row that it was, as every other is.
pub record StandsAt (old new : List (Option TaskRow)) (slot : ℕ) : Type 0 where
  pub cursor : Cursor
  pub rows : ChangesOnly old new slot (with_cursor cursor)

-- The row in the slot stands at the first time.
abbrev pub StandsFirst : List (Option TaskRow) → (slot : ℕ) → Type 0
StandsFirst rows slot = (r : TaskRow) → row_at rows slot ≡ Some r → r.cursor.time ≡ 0

-- The search of the row in the slot stands before its limit, and counted no more true values than it looked at.
pub record CanLookOn (rows : List (Option TaskRow)) (slot : ℕ) : Type 0 where
  pub before : (r : TaskRow) → row_at rows slot ≡ Some r → r.cursor.time < r.task.depth
  pub few : (r : TaskRow) → row_at rows slot ≡ Some r → r.cursor.count ≤ r.cursor.time
