-- Laws of the parts of a table's rows: in a table in range, each part of a form is the node of the number that the row names, and is read
-- and visited as that node. Each law is over all contexts and points.
use Rattle.std.specs.Prelude.{◌≡◌, ℕ, ◌<◌, Some, slice_get}
use Rattle.lucid_tree.specs.Tree.{Head}
use Rattle.lucid_tree.specs.Levels.{Elements, Given}
use Rattle.lucid_tags.specs.Contexts.{Context}
use Rattle.lucid_equations.specs.Nodes.{row, PlainNodes, part_of}
use Rattle.lucid_equations.specs.Datons.{Daton}
use Rattle.lucid_equations.specs.Values.{node_hval}
use Rattle.lucid_equations.specs.Visits.{node_visits}
use Rattle.lucid_equations.specs.Rows.{parts, node_at, node_by, row_at, equations_of}
use Rattle.lucid_equations.specs.Ranges.{IsInRange}
use Rattle.lucid_equations.specs.Parts.{reads_parts, visits_parts}
use Rattle.lucid_equations.specs.declared.rows.Node.{Node}
use Rattle.lucid_equations.specs.declared.table.Table.{Table}

-- The row of this number in a table has as its part i the node of the number k.
pub record HasPart (T : Table) (id i k : ℕ) : Type 0 where
  pub row : Node
  pub there : row_at T id ≡ Some row
  pub names : slice_get (parts row) i ≡ Some k

-- In a table in range, a row's node is what the row says by the nodes of the table,
abbrev pub RowsAreTheirNodes : Type 0
RowsAreTheirNodes = (T : Table) → IsInRange T → (id : ℕ) (n : Node) → row_at T id ≡ Some n → node_at T id ≡ node_by T n

-- parts have lower numbers,
abbrev pub PartsAreLower : Type 0
PartsAreLower = (T : Table) → IsInRange T → (id i k : ℕ) → HasPart T id i k → k < id

-- and the parts of a form are the nodes of their numbers:
abbrev pub PartsAreTheirNodes : Type 0
PartsAreTheirNodes =
    (T : Table) → IsInRange T → (id i k : ℕ) → HasPart T id i k → (f : Head) (es : PlainNodes) → node_at T id ≡ row f es
    → part_of es i ≡ Some (node_at T k)

-- what is read of a part is what its own node has,
abbrev pub PartsReadTheirNodes : Type 0
PartsReadTheirNodes =
    (T : Table) → IsInRange T → (id i k : ℕ) → HasPart T id i k → (f : Head) (es : PlainNodes) → node_at T id ≡ row f es
    → (g : Given Daton) (m : ℕ) (c : Context) (t s : ℕ)
    → reads_parts (equations_of T) g m es c i t s ≡ node_hval (equations_of T) g m (node_at T k) c t s

-- and what is visited of it is what its own node visits.
abbrev pub PartsVisitTheirNodes : Type 0
PartsVisitTheirNodes =
    (T : Table) → IsInRange T → (id i k : ℕ) → HasPart T id i k → (f : Head) (es : PlainNodes) → node_at T id ≡ row f es
    → (b : Elements) (m d : ℕ) (c : Context) (t s : ℕ)
    → visits_parts (equations_of T) b m d es c i t s ≡ node_visits (equations_of T) b m d (node_at T k) c t s
