-- The grammar: which terminals spell which tree. It is this language's own.
use Rattle.std.specs.Prelude.{◌≡◌, ℕ, ◌≤◌, Bool, false, List, [], ◌∷◌, ◌++◌, Option, Some, None, nat_eq, if◌then◌else◌}
use Rattle.lucid_value.specs.Plain.{PlainValue}
use Rattle.lucid_ops.specs.declared.op.Op.TheVariants as op
use Rattle.lucid_ops.specs.declared.op.Form.{Form}
use Rattle.lucid_ops.specs.declared.op.Form.TheVariants.{Before, Between, Called}
use Rattle.lucid_ops.specs.Rows.{form_number}
use Rattle.lucid_tree.specs.Tree.{const, choose, PlainTree, form, name, call, block, PlainTrees, no_trees, tree, PlainDefs, no_defs, defines, defines_function, defines_current}
use Rattle.lucid_tree.specs.Size.{count}
use Rattle.lucid_parse.specs.declared.operator.Operator.TheVariants.{Data}
use Rattle.lucid_parse.specs.declared.operator.Operator.{Operator}
pub use Rattle.lucid_parse.specs.Operators.{row_of, level_of, arity_of, left, right, head}
use Rattle.lucid_parse.specs.declared.terminal.Terminal.{Terminal}
use Rattle.lucid_parse.specs.declared.terminal.Terminal.TheVariants as terminal

-- A terminal that holds the bytes of its name, or the value of its constant.
abbrev pub PlainTerminal : Type 0
PlainTerminal = Terminal (List ℕ) PlainValue

-- A terminal with its place in the source.
pub record PlacedTerminal : Type 0 where
  pub terminal : PlainTerminal
  pub at : ℕ

abbrev pub terminal_at : PlainTerminal → ℕ → PlacedTerminal
terminal_at terminal at = record { terminal = terminal; at = at }

-- The operator, where its row has this form.
abbrev pub is_form : Form → Option Form → Bool
is_form wanted None = false
is_form wanted (Some f) = nat_eq (form_number f) (form_number wanted)

abbrev pub as_form : Form → Operator → Option Operator
as_form wanted operator = if is_form wanted (row_of operator).form then Some operator else None

-- The operator that a terminal is in a form. `-` is one between two operands and one before one.
abbrev pub operator_in : {N V : Type 0} → Form → Terminal N V → Option Operator
operator_in wanted (terminal.Operator operator) = as_form wanted operator
operator_in Between terminal.Minus = Some (Data op.Sub)
operator_in Before terminal.Minus = Some (Data op.Neg)
operator_in _ _ = None

-- A parameter of a function, with its place.
pub record Parameter : Type 0 where
  pub at : ℕ
  pub name : List ℕ

abbrev pub parameter : ℕ → List ℕ → Parameter
parameter at n = record { at = at; name = n }

abbrev pub names_of : List Parameter → List (List ℕ)
names_of [] = []
names_of (one ∷ more) = one.name ∷ names_of more

abbrev pub places_of : List Parameter → List ℕ
places_of [] = []
places_of (one ∷ more) = one.at ∷ places_of more

-- What a definition defines its name as.
pub data Defined : Type 0 where
  Plain : Defined
  Function : List Parameter → Defined
  Current : Defined

-- a definition in front of others
abbrev pub def_before : ℕ → List ℕ → Defined → PlainTree → PlainDefs → PlainDefs
def_before at n Plain right_side defs = defines at n right_side defs
def_before at n (Function parameters) right_side defs = defines_function at n (names_of parameters) (places_of parameters) right_side defs
def_before at n Current right_side defs = defines_current at n right_side defs

-- definitions with one more at their end
abbrev pub defs_and : PlainDefs → ℕ → List ℕ → Defined → PlainTree → PlainDefs
defs_and no_defs at n defined right_side = def_before at n defined right_side no_defs
defs_and (defines first_at first_name side more) at n defined right_side = defines first_at first_name side (defs_and more at n defined right_side)
defs_and (defines_function first_at first_name names places side more) at n defined right_side =
    defines_function first_at first_name names places side (defs_and more at n defined right_side)
defs_and (defines_current first_at first_name side more) at n defined right_side = defines_current first_at first_name side (defs_and more at n defined right_side)

-- trees with one more at their end
abbrev pub trees_and : PlainTrees → PlainTree → PlainTrees
trees_and no_trees last = tree last no_trees
trees_and (tree one more) last = tree one (trees_and more last)

-- One parameter or more, parted by commas.
pub data SpellsNames : List PlacedTerminal → List Parameter → Type 0 where
  spells_first_name : {at : ℕ} {n : List ℕ} → SpellsNames (terminal_at (terminal.Name n) at ∷ []) (parameter at n ∷ [])
  spells_more_names : (comma_at at : ℕ) (n : List ℕ) {xs : List PlacedTerminal} {all : List Parameter} → SpellsNames xs all
      → SpellsNames (xs ++ terminal_at terminal.Comma comma_at ∷ terminal_at (terminal.Name n) at ∷ []) (all ++ parameter at n ∷ [])

mutual
  -- The terminals spell the tree, in a place that allows forms of this level and tighter ones. A program is spelled at level 0.
  pub data Spells : ℕ → List PlacedTerminal → PlainTree → Type 0 where
    spells_const : {level at : ℕ} {v : PlainValue} → Spells level (terminal_at (terminal.Const v) at ∷ []) (form at (const v) no_trees)
    spells_name : {level at : ℕ} {n : List ℕ} → Spells level (terminal_at (terminal.Name n) at ∷ []) (name at n)
    spells_infix : {level at : ℕ} {xs ys : List PlacedTerminal} {x y : PlainTree} (terminal : PlainTerminal) (operator : Operator) → operator_in Between terminal ≡ Some operator → level ≤ level_of operator
        → Spells (left operator) xs x → Spells (right operator) ys y
        → Spells level (xs ++ terminal_at terminal at ∷ ys) (form at (head operator) (tree x (tree y no_trees)))
    spells_prefix : {level at : ℕ} {xs : List PlacedTerminal} {x : PlainTree} (terminal : PlainTerminal) (operator : Operator) → operator_in Before terminal ≡ Some operator → level ≤ level_of operator
        → Spells (level_of operator) xs x
        → Spells level (terminal_at terminal at ∷ xs) (form at (head operator) (tree x no_trees))
    spells_inner : {level p : ℕ} (close_at : ℕ) {xs : List PlacedTerminal} {x : PlainTree} → Spells 0 xs x
        → Spells level (terminal_at terminal.Open p ∷ (xs ++ terminal_at terminal.Close close_at ∷ [])) x
    spells_if : {level at : ℕ} (then_at else_at fi_at : ℕ) {xs ys zs : List PlacedTerminal} {x y z : PlainTree} → Spells 0 xs x → Spells 0 ys y → Spells 0 zs z
        → Spells level (terminal_at terminal.If at ∷ (xs ++ terminal_at terminal.Then then_at ∷ (ys ++ terminal_at terminal.Else else_at ∷ (zs ++ terminal_at terminal.Fi fi_at ∷ []))))
        (form at choose (tree x (tree y (tree z no_trees))))
    spells_call : {level at p : ℕ} (close_at : ℕ) {n : List ℕ} {xs : List PlacedTerminal} {args : PlainTrees} → SpellsArgs xs args
        → Spells level (terminal_at (terminal.Name n) at ∷ terminal_at terminal.Open p ∷ (xs ++ terminal_at terminal.Close close_at ∷ [])) (call at n args)
    spells_called : {level at p : ℕ} (close_at : ℕ) (word : PlainTerminal) (operator : Operator) {xs : List PlacedTerminal} {args : PlainTrees} → operator_in Called word ≡ Some operator → count args ≡ arity_of operator → SpellsArgs xs args
        → Spells level (terminal_at word at ∷ terminal_at terminal.Open p ∷ (xs ++ terminal_at terminal.Close close_at ∷ [])) (form at (head operator) args)
    spells_block : {level at : ℕ} (end_at : ℕ) {xs ds : List PlacedTerminal} {x : PlainTree} {all : PlainDefs} → level ≤ 0 → Spells 0 xs x → SpellsDefs ds all
        → Spells level (xs ++ terminal_at terminal.Where at ∷ (ds ++ terminal_at terminal.End end_at ∷ [])) (block at x all)

  -- One tree or more, parted by commas.
  pub data SpellsArgs : List PlacedTerminal → PlainTrees → Type 0 where
    spells_one : {xs : List PlacedTerminal} {x : PlainTree} → Spells 0 xs x → SpellsArgs xs (tree x no_trees)
    spells_more : (comma_at : ℕ) {xs ys : List PlacedTerminal} {all : PlainTrees} {y : PlainTree} → SpellsArgs xs all → Spells 0 ys y
        → SpellsArgs (xs ++ terminal_at terminal.Comma comma_at ∷ ys) (trees_and all y)

  -- Any number of definitions, each with a semicolon.
  pub data SpellsDefs : List PlacedTerminal → PlainDefs → Type 0 where
    spells_none : SpellsDefs [] no_defs
    spells_def : (at : ℕ) (n : List ℕ) (equals_at semicolon_at : ℕ) {ds ys : List PlacedTerminal} {all : PlainDefs} {y : PlainTree} → SpellsDefs ds all → Spells 0 ys y
        → SpellsDefs (ds ++ terminal_at (terminal.Name n) at ∷ terminal_at terminal.Equals equals_at ∷ (ys ++ terminal_at terminal.Semicolon semicolon_at ∷ [])) (defs_and all at n Plain y)
    spells_function : (at : ℕ) (n : List ℕ) (open_at close_at equals_at semicolon_at : ℕ) {ds ns ys : List PlacedTerminal} {all : PlainDefs} {parameters : List Parameter} {y : PlainTree}
        → SpellsDefs ds all → SpellsNames ns parameters → Spells 0 ys y
        → SpellsDefs (ds ++ terminal_at (terminal.Name n) at ∷ terminal_at terminal.Open open_at ∷ (ns ++ terminal_at terminal.Close close_at ∷ terminal_at terminal.Equals equals_at ∷ (ys ++ terminal_at terminal.Semicolon semicolon_at ∷ [])))
        (defs_and all at n (Function parameters) y)
    spells_current : (at : ℕ) (n : List ℕ) (is_at current_at semicolon_at : ℕ) {ds ys : List PlacedTerminal} {all : PlainDefs} {y : PlainTree} → SpellsDefs ds all → Spells 0 ys y
        → SpellsDefs (ds ++ terminal_at (terminal.Name n) at ∷ terminal_at terminal.Is is_at ∷ terminal_at terminal.Current current_at ∷ (ys ++ terminal_at terminal.Semicolon semicolon_at ∷ [])) (defs_and all at n Current y)
