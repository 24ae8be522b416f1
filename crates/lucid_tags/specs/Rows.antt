-- How a table of frames holds the known contexts: the empty one at number 0, and that of each row at its index + 1.
use Rattle.std.specs.Prelude.{◌≡◌, ℕ, suc, ◌<◌, ◌≤◌, ◌^◌, List, [], ◌∷◌, ◌++◌, Some, length, slice_get}
use Rattle.lucid_tags.specs.declared.rows.Row.{Row}
use Rattle.lucid_tags.specs.declared.rows.RowFrame.{RowFrame}
use Rattle.lucid_tags.specs.declared.rows.RowFrame.TheVariants.{Call, Frozen}
use Rattle.lucid_tags.specs.declared.rows.Depth.{Depth}
use Rattle.lucid_tags.specs.Contexts.{Context, root, call_frame, frozen_frame, frames, IsOuter, context_at}

-- a context with a frame added, whose caller is given by its number
abbrev pub with_frame : List Context → RowFrame → Context → Context
with_frame known (Call place caller) base = call_frame place (context_at known caller) base
with_frame known (Frozen time) base = frozen_frame time base

-- the context of a row, by the contexts of lower numbers
abbrev pub row_context : List Context → Row → Context
row_context known row = with_frame known row.frame (context_at known row.base)

-- the number of the caller, if there is one, is below a bound
abbrev pub CallerBelow : ℕ → RowFrame → Type 0
CallerBelow bound (Call place caller) = caller < bound
CallerBelow bound (Frozen time) = Unit {0}

-- the known contexts, once the rows are added to those that are known
abbrev pub contexts_after : List Context → List Row → List Context
contexts_after known [] = known
contexts_after known (row ∷ rows) = contexts_after (known ++ row_context known row ∷ []) rows

-- the known contexts of a table: the empty one, and then those of its rows
abbrev pub contexts : List Row → List Context
contexts rows = contexts_after (root ∷ []) rows

-- what is kept of the depth of the context at a number is right: its level, and a context further out, which has a lower number
-- unless the context is the empty one
pub record IsDepth (known : List Context) (number : ℕ) (depth : Depth) : Type 0 where
  pub level : depth.level ≡ frames (context_at known number)
  pub low : depth.level ≤ number
  pub before : depth.outer ≤ number
  pub lower : depth.outer ≡ number → number ≡ 0
  pub outer : IsOuter (context_at known depth.outer) (context_at known number)

-- the context at a number is that of a row, whose base and caller have lower numbers
pub record IsRow (known : List Context) (number : ℕ) (row : Row) : Type 0 where
  pub base : row.base < number
  pub caller : CallerBelow number row.frame
  pub context : context_at known number ≡ row_context known row

-- no context is at two numbers
pub record AreDistinct (known : List Context) : Type 0 where
  pub same : (i j : ℕ) → i < length known → j < length known → context_at known i ≡ context_at known j → i ≡ j

-- the depths of the contexts from number 1 on are right
pub record AreDepths (known : List Context) (depths : List Depth) : Type 0 where
  pub depth : (index : ℕ) (d : Depth) → slice_get depths index ≡ Some d → IsDepth known (suc index) d

-- each row of a table is right, and so is its depth, no two rows have one context, and the numbers fit
pub record AreRows (rows : List Row) (depths : List Depth) : Type 0 where
  pub row : (index : ℕ) (r : Row) → slice_get rows index ≡ Some r → IsRow (contexts rows) (suc index) r
  pub deep : AreDepths (contexts rows) depths
  pub even : length depths ≡ length rows
  pub distinct : AreDistinct (contexts rows)
  pub few : length rows < 2 ^ 32
