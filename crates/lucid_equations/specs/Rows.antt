-- What a table's rows are: nodes as trees of nodes, in order, each by those before it; and the equations of a table.
use Rattle.std.specs.Prelude.{◌≡◌, ℕ, List, [], ◌∷◌, ◌++◌, take, Option, Some, None, get_or, slice_get}
use Rattle.std.specs.Option.{option_map, option_and_then}
use Rattle.lucid_value.specs.Plain.{PlainValue, fault}
use Rattle.lucid_ops.specs.Arity.{arity}
use Rattle.lucid_tree.specs.declared.form.Form.{Form}
use Rattle.lucid_tree.specs.Forms.{form_row, part_count}
use Rattle.lucid_tree.specs.declared.form.Form.TheVariants as forms
use Rattle.lucid_tree.specs.Tree.{const, apply, stream}
use Rattle.lucid_equations.specs.Nodes.{PlainNode, row, freeze, reference, invoke, PlainNodes, no_nodes, node, PlainEntry, plain_entry, called_entry, current_entry, parameter_entry, input, refer, Equations}
use Rattle.lucid_equations.specs.declared.rows.Node.{Node}
use Rattle.lucid_equations.specs.declared.rows.Node.TheVariants as rows
use Rattle.lucid_equations.specs.declared.rows.Node.TheVariants.{Const, Input, Apply, Freeze, Refer, Call}
use Rattle.lucid_equations.specs.declared.rows.Entry.{Entry}
use Rattle.lucid_equations.specs.declared.rows.Entry.TheVariants.{Plain, Parameter, Current, Called}
use Rattle.lucid_equations.specs.declared.rows.NodeRow.{NodeRow}
use Rattle.lucid_equations.specs.declared.rows.PlaceRow.{PlaceRow}
use Rattle.lucid_equations.specs.declared.table.Table.{Table}

-- where no number leads
abbrev pub no_node : PlainNode
no_node = row (stream forms.If) no_nodes

-- the nodes at some numbers
abbrev pub at : List PlainNode → ℕ → PlainNode
at ts i = get_or ts i no_node

abbrev pub all_at : List PlainNode → List ℕ → PlainNodes
all_at ts [] = no_nodes
all_at ts (i ∷ is) = node (at ts i) (all_at ts is)

-- a form over streams with its parts, by their numbers, where the node is one
abbrev pub read : Node → Option (Form × List ℕ)
read (rows.If a b c) = Some (forms.If, a ∷ b ∷ c ∷ [])
read (rows.And a b) = Some (forms.And, a ∷ b ∷ [])
read (rows.Or a b) = Some (forms.Or, a ∷ b ∷ [])
read (rows.First a) = Some (forms.First, a ∷ [])
read (rows.Next a) = Some (forms.Next, a ∷ [])
read (rows.Fby a b) = Some (forms.Fby, a ∷ b ∷ [])
read (rows.Whenever a b) = Some (forms.Whenever, a ∷ b ∷ [])
read (rows.Asa a b) = Some (forms.Asa, a ∷ b ∷ [])
read (rows.Upon a b) = Some (forms.Upon, a ∷ b ∷ [])
read (rows.Attime a b) = Some (forms.Attime, a ∷ b ∷ [])
read (rows.Initial a) = Some (forms.Initial, a ∷ [])
read (rows.Succ a) = Some (forms.Succ, a ∷ [])
read (rows.Sby a b) = Some (forms.Sby, a ∷ b ∷ [])
read (rows.Atspace a b) = Some (forms.Atspace, a ∷ b ∷ [])
read _ = None

-- and back: the node of a form with these numbers, of which those past its parts aren't read
abbrev pub made : Form → (a b c : ℕ) → Node
made forms.If a b c = rows.If a b c
made forms.And a b c = rows.And a b
made forms.Or a b c = rows.Or a b
made forms.First a b c = rows.First a
made forms.Next a b c = rows.Next a
made forms.Fby a b c = rows.Fby a b
made forms.Whenever a b c = rows.Whenever a b
made forms.Asa a b c = rows.Asa a b
made forms.Upon a b c = rows.Upon a b
made forms.Attime a b c = rows.Attime a b
made forms.Initial a b c = rows.Initial a
made forms.Succ a b c = rows.Succ a
made forms.Sby a b c = rows.Sby a b
made forms.Atspace a b c = rows.Atspace a b

-- What is read of the node that is made of a form is the form with its parts, and the node that is made of what is read is the node.
abbrev pub MadeIsRead : Type 0
MadeIsRead = (f : Form) (a b c : ℕ) → read (made f a b c) ≡ Some (f, take (part_count f) (a ∷ b ∷ c ∷ []))

abbrev pub ReadIsMade : Type 0
ReadIsMade = (n : Node) (f : Form) (is : List ℕ) → read n ≡ Some (f, is) → made f (get_or is 0 0) (get_or is 1 0) (get_or is 2 0) ≡ n

-- the word of the form that was read; none where none was
abbrev pub read_word : Option (Form × List ℕ) → List ℕ
read_word None = []
read_word (Some p) = (form_row p.0).spelling

-- the parts of a node, by their numbers; a reference has none
abbrev pub parts_read : Option (Form × List ℕ) → List ℕ
parts_read None = []
parts_read (Some p) = p.1

abbrev pub parts : Node → List ℕ
parts (Apply op args) = take (arity op) args
parts (Freeze a) = a ∷ []
parts n = parts_read (read n)

-- a row as a node, by constants, inputs and the nodes at its parts' numbers
abbrev pub form_node : List PlainNode → Option (Form × List ℕ) → PlainNode
form_node ts None = no_node
form_node ts (Some p) = row (stream p.0) (all_at ts p.1)

abbrev pub as_node : List PlainValue → List (List ℕ) → List PlainNode → Node → PlainNode
as_node vs ns ts (Const k) = row (const (get_or vs k fault)) no_nodes
as_node vs ns ts (Input k) = reference (input (get_or ns k []))
as_node vs ns ts (Apply op args) = row (apply op (arity op)) (all_at ts (take (arity op) args))
as_node vs ns ts (Freeze a) = freeze (at ts a)
as_node vs ns ts (Refer n l) = reference (refer n l)
as_node vs ns ts (Call n q l) = invoke n q l
as_node vs ns ts n = form_node ts (read n)

-- the rows in order, each by the nodes before it
abbrev pub grow : List PlainValue → List (List ℕ) → List PlainNode → List NodeRow → List PlainNode
grow vs ns ts [] = ts
grow vs ns ts (r ∷ rs) = grow vs ns (ts ++ as_node vs ns ts r.node ∷ []) rs

-- the constants and the nodes of a table
abbrev pub constants_of : Table → List PlainValue
constants_of t = t.constants

abbrev pub nodes_of : Table → List PlainNode
nodes_of t = grow (constants_of t) t.inputs [] t.nodes

-- the constant of a number
abbrev pub constant_at : Table → ℕ → PlainValue
constant_at t k = get_or (constants_of t) k fault

-- the node of a number
abbrev pub node_at : Table → ℕ → PlainNode
node_at t id = at (nodes_of t) id

-- a row as a node, by the nodes of the table
abbrev pub node_by : Table → Node → PlainNode
node_by t n = as_node (constants_of t) t.inputs (nodes_of t) n

-- a name's row
abbrev pub entry_by : Table → Entry → PlainEntry
entry_by t (Plain a) = plain_entry (node_at t a)
entry_by t (Parameter i) = parameter_entry i
entry_by t (Current a) = current_entry (node_at t a)
entry_by t (Called a) = called_entry (node_at t a)

-- the rows of a number
abbrev pub row_at : Table → ℕ → Option Node
row_at t id = option_map (λ r. r.node) (slice_get t.nodes id)

-- the number of a row's part
abbrev pub part_number : Table → (id index : ℕ) → Option ℕ
part_number t id i = option_and_then (λ n. slice_get (parts n) i) (row_at t id)

abbrev pub name_at : Table → ℕ → Option Entry
name_at t n = option_map (λ r. r.kind) (slice_get t.names n)

-- the actuals of a call place, none where there is no such place
abbrev pub actuals_of : Option PlaceRow → List ℕ
actuals_of None = []
actuals_of (Some r) = r.actuals

abbrev pub actual_at : Table → (place index : ℕ) → Option ℕ
actual_at t q i = slice_get (actuals_of (slice_get t.places q)) i

-- The equations of a table.
abbrev pub equations_of : Table → Equations
equations_of t = record {
  root = node_at t t.root;
  entry = λ n. option_map (entry_by t) (name_at t n);
  actual = λ q i. option_map (node_at t) (actual_at t q i);
}
