-- The table of a tree. Its rows are read off the tree in one walk (Notes.antt), and a row's number is the number of rows of its kind before it.
use Rattle.std.specs.Prelude.{ℕ, suc, List, [], ◌∷◌, ◌++◌, map, filter, get_or, nat_eq}
use Rattle.std.specs.List.{position_or_len}
use Rattle.lucid_tree.specs.Tree.{const, PlainTree, form, name, call, block, PlainTrees, no_trees, tree, PlainDefs, no_defs, defines, defines_function, defines_current}
use Rattle.lucid_tree.specs.Env.{same_name}
use Rattle.lucid_scope.specs.Scope.{Meaning, function, meaning}
use Rattle.lucid_equations.specs.Nodes.{Reference, input, refer}
use Rattle.lucid_equations.specs.declared.rows.Node.{Node}
use Rattle.lucid_equations.specs.declared.rows.Node.TheVariants.{Input, Freeze, Refer, Call}
use Rattle.lucid_equations.specs.declared.rows.Entry.{Entry}
use Rattle.lucid_equations.specs.declared.rows.Entry.TheVariants.{Plain, Parameter, Current, Called}
use Rattle.lucid_equations.specs.declared.rows.ScopeKind.{ScopeKind}
use Rattle.lucid_equations.specs.declared.rows.ScopeKind.TheVariants.{Root, Called as CalledScope, Frozen as FrozenScope}
use Rattle.lucid_equations.specs.declared.table.Table.{Table}
use Rattle.lucid_compile.specs.Static.{Static, outermost, in_block, in_function, in_body, frame, level, Numbers, reference_of, call_level}
use Rattle.lucid_compile.specs.Places.{first_place}
use Rattle.lucid_compile.specs.Forms.{node_of}
use Rattle.lucid_compile.specs.Notes.{Kind, opening, plain_right, current_right, called_right, parameter_number, Note, note, notes, is_opening, is_piece, is_constant, is_call, is_name, noted_tree, noted_value, noted_name, noted_actuals, node_place}

-- By what a scope is told: 0 the program's; else one more than the place of its block's first definition, or of its function's first parameter.
abbrev pub definition_place : PlainDefs → ℕ
definition_place no_defs = 0
definition_place (defines at x e ds) = at
definition_place (defines_function at x ns ats e ds) = at
definition_place (defines_current at x e ds) = at

abbrev pub own : Static → ℕ
own outermost = 0
own (in_block ds k) = suc (definition_place ds)
own (in_function d ns ats k) = suc (get_or ats 0 0)

-- what is in scope round it, and its kind
abbrev pub round : Static → Static
round outermost = outermost
round (in_block ds k) = k
round (in_function d ns ats k) = k

abbrev pub scope_kind : Static → ScopeKind
scope_kind outermost = Root
scope_kind (in_block ds k) = FrozenScope
scope_kind (in_function d ns ats k) = CalledScope

-- A call is a name too, with its function's right side, in the function's scope. In a resolved tree each call calls a function.
abbrev pub callee : (at : ℕ) → Meaning → Note
callee at (function d ns ats e k) = note at (in_body ns ats k) (called_right e)
callee at _ = note at outermost opening

module _ (e : PlainTree) where
  -- The rows of each kind, in order. Those of calls stand behind all other names.
  abbrev pub scopes : List Note
  scopes = note 0 outermost opening ∷ filter (λ n. is_opening n.kind) (notes outermost e)

  abbrev pub pieces : List Note
  pieces = filter (λ n. is_piece n.kind) (notes outermost e)

  abbrev pub constants : List Note
  constants = filter (λ n. is_constant n.kind) (notes outermost e)

  abbrev pub calls : List Note
  calls = filter (λ n. is_call n.kind) (notes outermost e)

  abbrev pub names : List Note
  names = filter (λ n. is_name n.kind) (notes outermost e) ++ map (λ c. callee c.at (meaning (noted_name c.kind) c.home)) calls

-- A number is an index: no place stands twice in one of these lists.
abbrev pub index : List Note → (at : ℕ) → ℕ
index ns at = position_or_len (λ n. nat_eq n.at at) ns

-- the trees of some
abbrev pub trees : PlainTrees → List PlainTree
trees no_trees = []
trees (tree e es) = e ∷ trees es

module _ (e : PlainTree) where
  -- the numbers of a tree's node, of what is in scope, and of names and call places
  abbrev pub node_number : PlainTree → ℕ
  node_number x = index (pieces e) (node_place x)

  abbrev pub node_numbers : PlainTrees → List ℕ
  node_numbers xs = map node_number (trees xs)

  abbrev pub scope_number : Static → ℕ
  scope_number k = position_or_len (λ n. nat_eq (own n.home) (own (frame k))) (scopes e)

  abbrev pub numbers_of : Numbers
  numbers_of = record {
    name = λ at. index (names e) at;
    place = λ es. position_or_len (λ c. nat_eq (first_place (noted_actuals c.kind)) (first_place es)) (calls e);
  }

  -- the entry of a name's row
  abbrev pub entry_of : Kind → Entry
  entry_of (plain_right x) = Plain (node_number x)
  entry_of (current_right x) = Current (node_number x)
  entry_of (called_right x) = Called (node_number x)
  entry_of (parameter_number i) = Parameter i
  entry_of _ = Parameter 0

-- the row of a name without arguments
abbrev pub reference_row : (inputs : List (List ℕ)) → Reference → Node
reference_row inputs (input x) = Input (position_or_len (same_name x) inputs)
reference_row inputs (refer n l) = Refer n l

module _ (e : PlainTree) (inputs : List (List ℕ)) where
  -- the row of a piece, by its form, its parts' numbers and what its names belong to
  abbrev pub row_of : Static → PlainTree → Node
  row_of k (form at (const v) es) = node_of (const v) (index (constants e) at) 0 0
  row_of k (form at f es) = node_of f (get_or (node_numbers e es) 0 0) (get_or (node_numbers e es) 1 0) (get_or (node_numbers e es) 2 0)
  row_of k (name at x) = reference_row inputs (reference_of (numbers_of e) (level k) x (meaning x k))
  row_of k (call at x es) = Call ((numbers_of e).name at) ((numbers_of e).place es) (call_level (level k) (meaning x k))
  row_of k (block at x ds) = Freeze (node_number e x)

  -- The table of a tree with these inputs.
  abbrev pub table_of : Table
  table_of = record {
    scopes = map (λ n. record { parent = scope_number e (round n.home); kind = scope_kind n.home }) (scopes e);
    inputs = inputs;
    constants = map (λ n. noted_value n.kind) (constants e);
    nodes = map (λ n. record { scope = scope_number e n.home; node = row_of n.home (noted_tree n.kind) }) (pieces e);
    names = map (λ n. record { scope = scope_number e n.home; kind = entry_of e n.kind }) (names e);
    places = map (λ c. record { scope = scope_number e c.home; name = (numbers_of e).name c.at; actuals = node_numbers e (noted_actuals c.kind) }) (calls e);
    root = node_number e e;
  }
