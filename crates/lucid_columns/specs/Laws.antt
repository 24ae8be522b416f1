-- The laws of columns.
use Rattle.std.specs.Prelude.{◌≡◌, ℕ, List, Some, IsTrue, slice_get}
use Rattle.lucid_tree.specs.Tree.{PlainTree}
use Rattle.lucid_tree.specs.Levels.{Elements}
use Rattle.lucid_tree.specs.Env.{empty}
use Rattle.lucid_tree.specs.Meaning.{val}
use Rattle.lucid_tree.specs.Demand.{seen, consults}
use Rattle.lucid_scope.specs.Bindings.{HasNoFault}
use Rattle.lucid_columns.specs.Columns.{is_column, column, with_columns, AreColumns}

-- The program with its columns side by side has at a space what the program with that column as its subject has at space 0: at every limit
-- the same value, and the same is met there, whatever is added; so the same elements are consulted.
pub record IsSpace (e : PlainTree) (base : ℕ) (names : List (List ℕ)) (space : ℕ) (n : List ℕ) : Type 0 where
  pub values : (b : Elements) (m t : ℕ) → val b m (with_columns e base names) empty t space ≡ val b m (column e n) empty t 0
  pub seen : (b : Elements) (m d t : ℕ) → seen b m d (with_columns e base names) empty t space ≡ seen b m d (column e n) empty t 0
  pub consults : (b : Elements) (m d t : ℕ) → consults b m d (with_columns e base names) empty t space ≡ consults b m d (column e n) empty t 0

-- So it is for each of them.
abbrev pub ColumnsAreSpaces : Type 0
ColumnsAreSpaces =
    (e : PlainTree) (base : ℕ) (names : List (List ℕ)) (i : ℕ) (n : List ℕ) → slice_get names i ≡ Some n → IsTrue (is_column e n) → IsSpace e base names i n

-- Where the names of a program have no fault, those of its columns have none.
abbrev pub ColumnsHaveNoFault : Type 0
ColumnsHaveNoFault =
    (e : PlainTree) (base : ℕ) (names : List (List ℕ)) → AreColumns e names → HasNoFault e → HasNoFault (with_columns e base names)
