-- The flat form: the text of an equation table. It has a first line, and then a line for each row, in the order of the lists; scope 0, which
-- is the same in each table that has a text, has none. The words are this language's own.
use Rattle.std.specs.Prelude.{ℕ, List, [], ◌∷◌, ◌++◌, Option, Some, None, map, drop, codes, decimal}
use Rattle.std.specs.List.{join_with_byte}
use Rattle.lucid_value.specs.Plain.{PlainValue}
use Rattle.lucid_value.specs.ValueText.{value_text}
use Rattle.lucid_texts.specs.TextLines.{text_of}
use Rattle.lucid_ops.specs.declared.op.Op.{Op}
use Rattle.lucid_ops.specs.declared.op.Op.TheVariants.{Add, Sub, Mul, Div, Mod, Pow, Neg, Abs, Eq, Ne, Lt, Le, Gt, Ge, Cmp, Not, Head, Tail, Cons, Append, Join, Length, Substr, Nth, MakeWord, MakeString, IsInt, IsWord, IsString, IsList, IsTruth, IsNull, IsAtom, IsEod, IsError}
use Rattle.lucid_tree.specs.declared.form.Form.{Form}
use Rattle.lucid_tree.specs.Forms.{spelled}
use Rattle.lucid_equations.specs.Rows.{read, read_word, made, parts}
use Rattle.lucid_equations.specs.declared.rows.ScopeKind.{ScopeKind}
use Rattle.lucid_equations.specs.declared.rows.ScopeKind.TheVariants.{Root, Called as CalledScope, Frozen as FrozenScope}
use Rattle.lucid_equations.specs.declared.rows.ScopeRow.{ScopeRow}
use Rattle.lucid_equations.specs.declared.rows.Node.{Node}
use Rattle.lucid_equations.specs.declared.rows.Node.TheVariants.{Const, Input, Apply, Freeze, Refer, Call}
use Rattle.lucid_equations.specs.declared.rows.Entry.{Entry}
use Rattle.lucid_equations.specs.declared.rows.Entry.TheVariants.{Plain, Parameter, Current, Called}
use Rattle.lucid_equations.specs.declared.rows.NodeRow.{NodeRow}
use Rattle.lucid_equations.specs.declared.rows.NameRow.{NameRow}
use Rattle.lucid_equations.specs.declared.rows.PlaceRow.{PlaceRow}
use Rattle.lucid_equations.specs.declared.table.Table.{Table}

-- A row that has a line.
pub data FlatRow : Type 0 where
  scope_row : ScopeRow → FlatRow
  input_row : (name : List ℕ) → FlatRow
  constant_row : PlainValue → FlatRow
  node_row : NodeRow → FlatRow
  name_row : NameRow → FlatRow
  place_row : PlaceRow → FlatRow
  root_row : (node : ℕ) → FlatRow

-- the rows of a table in their order
abbrev pub flat_rows : Table → List FlatRow
flat_rows t =
    map scope_row (drop 1 t.scopes) ++ (map input_row t.inputs ++ (map constant_row t.constants ++ (map node_row t.nodes
    ++ (map name_row t.names ++ (map place_row t.places ++ root_row t.root ∷ [])))))

-- the word of a scope's kind
abbrev pub kind_word : ScopeKind → List ℕ
kind_word Root = codes "root"
kind_word CalledScope = codes "called"
kind_word FrozenScope = codes "frozen"

-- an operator's name in lower-case letters
abbrev pub op_word : Op → List ℕ
op_word Add = codes "add"
op_word Sub = codes "sub"
op_word Mul = codes "mul"
op_word Div = codes "div"
op_word Mod = codes "mod"
op_word Pow = codes "pow"
op_word Neg = codes "neg"
op_word Abs = codes "abs"
op_word Eq = codes "eq"
op_word Ne = codes "ne"
op_word Lt = codes "lt"
op_word Le = codes "le"
op_word Gt = codes "gt"
op_word Ge = codes "ge"
op_word Cmp = codes "cmp"
op_word Not = codes "not"
op_word Head = codes "head"
op_word Tail = codes "tail"
op_word Cons = codes "cons"
op_word Append = codes "append"
op_word Join = codes "join"
op_word Length = codes "length"
op_word Substr = codes "substr"
op_word Nth = codes "nth"
op_word MakeWord = codes "makeword"
op_word MakeString = codes "makestring"
op_word IsInt = codes "isint"
op_word IsWord = codes "isword"
op_word IsString = codes "isstring"
op_word IsList = codes "islist"
op_word IsTruth = codes "istruth"
op_word IsNull = codes "isnull"
op_word IsAtom = codes "isatom"
op_word IsEod = codes "iseod"
op_word IsError = codes "iserror"

-- a word, and the numbers in decimal digits
abbrev pub worded : List ℕ → List ℕ → List (List ℕ)
worded w ns = w ∷ map decimal ns

-- the word of a node's form, in lower-case letters
abbrev pub form_word : Node → List ℕ
form_word (Const k) = codes "const"
form_word (Input k) = codes "input"
form_word (Apply op args) = codes "apply"
form_word (Freeze a) = codes "freeze"
form_word (Refer n l) = codes "refer"
form_word (Call n q l) = codes "call"
form_word n = read_word (read n)

-- the nodes with these numbers that the word can stand for, but a data operator's
abbrev pub nodes_by : Option Form → (a b c : ℕ) → List Node
nodes_by (Some f) a b c = made f a b c ∷ []
nodes_by None a b c = Const a ∷ Input a ∷ Freeze a ∷ Refer a b ∷ Call a b c ∷ []

abbrev pub nodes_with : List ℕ → (a b c : ℕ) → List Node
nodes_with w a b c = nodes_by (spelled w) a b c

-- a node's numbers in the order of its fields: its parts, but of a data operator also those past its arity, and what has no parts has others
abbrev pub node_numbers : Node → List ℕ
node_numbers (Const k) = k ∷ []
node_numbers (Input k) = k ∷ []
node_numbers (Apply op args) = args
node_numbers (Refer n l) = n ∷ l ∷ []
node_numbers (Call n q l) = n ∷ q ∷ l ∷ []
node_numbers n = parts n

-- The words of a node: its form's, of a data operator the operator's too, and its numbers.
abbrev pub node_words : Node → List (List ℕ)
node_words (Apply op args) = codes "apply" ∷ worded (op_word op) args
node_words n = worded (form_word n) (node_numbers n)

-- the word of a name's kind
abbrev pub entry_word : Entry → List ℕ
entry_word (Plain a) = codes "plain"
entry_word (Parameter i) = codes "parameter"
entry_word (Current a) = codes "current"
entry_word (Called a) = codes "called"

-- and the number that stands behind it
abbrev pub entry_number : Entry → ℕ
entry_number (Plain a) = a
entry_number (Parameter i) = i
entry_number (Current a) = a
entry_number (Called a) = a

-- The words of a row.
abbrev pub row_words : FlatRow → List (List ℕ)
row_words (scope_row r) = codes "scope" ∷ decimal r.parent ∷ kind_word r.kind ∷ []
row_words (input_row n) = codes "input" ∷ n ∷ []
row_words (constant_row v) = codes "const" ∷ value_text v ∷ []
row_words (node_row r) = codes "node" ∷ decimal r.scope ∷ node_words r.node
row_words (name_row r) = worded (entry_word r.kind) (r.scope ∷ entry_number r.kind ∷ [])
row_words (place_row r) = worded (codes "place") (r.scope ∷ r.name ∷ r.actuals)
row_words (root_row n) = worded (codes "root") (n ∷ [])

-- Its line: the words with one blank (32) between each two.
abbrev pub row_line : FlatRow → List ℕ
row_line r = join_with_byte 32 (row_words r)

-- The line that each text begins with.
abbrev pub first_line : List ℕ
first_line = codes "lucid flat 1"

-- the lines of a table, the first one and one for each row
abbrev pub flat_lines : Table → List (List ℕ)
flat_lines t = first_line ∷ map row_line (flat_rows t)

-- The text of a table: its lines, each of them ended.
abbrev pub flat_text : Table → List ℕ
flat_text t = text_of (flat_lines t)
