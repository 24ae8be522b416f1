-- The columns of a program: names of its outermost block, side by side over space.
use Rattle.std.specs.Prelude.{◌≡◌, ℕ, suc, ◌+◌, ◌<◌, Bool, true, false, List, [], ◌∷◌, Some, IsTrue, length, slice_get}
use Rattle.lucid_tree.specs.Tree.{PlainTree, form, name, call, block, sby_of}
use Rattle.lucid_tree.specs.Env.{Found, absent, plain_def, function_def, current_def, definition}
use Rattle.lucid_tree.specs.declared.tree.DefKind.{DefKind}
use Rattle.lucid_tree.specs.declared.tree.DefKind.TheVariants.{Plain, Function, Current}
use Rattle.lucid_columns.specs.declared.refusal.ColumnRefusal.{ColumnRefusal}
use Rattle.lucid_columns.specs.declared.refusal.ColumnRefusal.TheVariants.{NoColumn, NoMemory}

-- the definition is of a plain name
abbrev pub is_plain : Found → Bool
is_plain absent = false
is_plain (plain_def at e) = true
is_plain (function_def at ns ats e) = false
is_plain (current_def at e) = false

abbrev pub defines_plain : DefKind → Bool
defines_plain (Plain e) = true
defines_plain (Function ps ats e) = false
defines_plain (Current e) = false

-- the program is a block that has a plain definition of the name
abbrev pub is_column : PlainTree → List ℕ → Bool
is_column (form at f es) n = false
is_column (name at m) n = false
is_column (call at m es) n = false
is_column (block at e ds) n = is_plain (definition n ds)

-- the program with another subject of its outermost block
abbrev pub with_subject : PlainTree → PlainTree → PlainTree
with_subject (block at e ds) x = block at x ds
with_subject (form at f es) x = form at f es
with_subject (name at m) x = name at m
with_subject (call at m es) x = call at m es

-- The program with the name as its subject. What it means doesn't look at the name's place.
abbrev pub column : PlainTree → List ℕ → PlainTree
column e n = with_subject e (name 0 n)

-- how many columns there may be
abbrev pub most_columns : ℕ
most_columns = 16

-- A name and others over space: `c0 sby (c1 sby ..)`. Name i has the place `base + i`, and `sby` number i the place `base + 16 + i`.
abbrev pub over_space : (base i : ℕ) → List ℕ → List (List ℕ) → PlainTree
over_space base i n [] = name (base + i) n
over_space base i n (m ∷ ms) = sby_of (base + most_columns + i) (name (base + i) n) (over_space base (suc i) m ms)

-- the program with these columns of it as the subject, over space
abbrev pub with_columns : PlainTree → (base : ℕ) → List (List ℕ) → PlainTree
with_columns e base [] = e
with_columns e base (n ∷ ns) = with_subject e (over_space base 0 n ns)

-- each of the names below a number is a column
abbrev pub AreColumnsBelow : PlainTree → List (List ℕ) → ℕ → Type 0
AreColumnsBelow e ns i = (j : ℕ) (n : List ℕ) → j < i → slice_get ns j ≡ Some n → IsTrue (is_column e n)

-- each of the names is a column
abbrev pub AreColumns : PlainTree → List (List ℕ) → Type 0
AreColumns e ns = AreColumnsBelow e ns (length ns)

-- The name of that number is the first that is no column.
pub record IsFirstMissing (e : PlainTree) (ns : List (List ℕ)) (i : ℕ) : Type 0 where
  pub before : AreColumnsBelow e ns i
  pub name : List ℕ
  pub is : slice_get ns i ≡ Some name
  pub missing : is_column e name ≡ false

-- why columns are refused
abbrev pub RefusesColumns : PlainTree → List (List ℕ) → ColumnRefusal → Type 0
RefusesColumns e ns (NoColumn index) = IsFirstMissing e ns index
RefusesColumns e ns NoMemory = Unit {0}
