-- What names and calls ask for: an element of an input, or the value where a reference or a call goes on.
use Rattle.std.specs.Prelude.{ℕ, Bool, false, ◌==◌, ◌&&◌, List, [], ◌∷◌, Option, Some, None, slice_get}
use Rattle.std.specs.List.{list_any}
use Rattle.std.specs.Option.{option_and_then}
use Rattle.lucid_equations.specs.Rows.{row_at}
use Rattle.lucid_equations.specs.declared.rows.Node.{Node}
use Rattle.lucid_equations.specs.declared.rows.Node.TheVariants.{Input, Refer, Call}
use Rattle.lucid_equations.specs.declared.table.Table.{Table}
use Rattle.lucid_cert_rules.specs.Certificates.{PlainJudgment}
use Rattle.lucid_cert_rules.specs.declared.cell.Cell.{Cell}
use Rattle.lucid_cert_rules.specs.declared.cell.Cell.TheVariants.{Named, Element}

-- a reference or a call goes on with its use
abbrev pub by_uses : List ℕ → Option Cell
by_uses [] = None
by_uses (u ∷ us) = Some (Named u)

-- An input's name asks for its element at the time, another name and a call for what they go on with. Any other node asks for nothing.
abbrev pub asked_by : PlainJudgment → Node → Option Cell
asked_by j (Input k) = Some (Element k j.time)
asked_by j (Refer n l) = by_uses j.uses
asked_by j (Call n p l) = by_uses j.uses
asked_by j _ = None

-- what a judgment asks for
abbrev pub cell_of : Table → PlainJudgment → Option Cell
cell_of T j = option_and_then (asked_by j) (row_at T j.node)

-- what the judgment of a number does
abbrev pub asked_at : Table → List PlainJudgment → (number : ℕ) → Option Cell
asked_at T js i = option_and_then (cell_of T) (slice_get js i)

-- the two are one
abbrev pub same_cell : Cell → Cell → Bool
same_cell (Named i) (Named j) = i == j
same_cell (Named i) (Element l u) = false
same_cell (Element k t) (Named j) = false
same_cell (Element k t) (Element l u) = (k == l) && (t == u)

-- it is one of these
abbrev pub is_among : List Cell → Cell → Bool
is_among cs c = list_any (same_cell c) cs
