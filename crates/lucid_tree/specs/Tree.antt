-- The plain form of a tree. All forms whose rows look at their own parts alone are one case, `form`: a head and a list of parts.
use Rattle.std.specs.Prelude.{ℕ, List}
use Rattle.lucid_value.specs.Plain.{PlainValue}
use Rattle.lucid_ops.specs.declared.op.Op.{Op}
use Rattle.lucid_tree.specs.declared.form.Form.{Form}
use Rattle.lucid_tree.specs.declared.form.Form.TheVariants as forms

-- What a form is, apart from its parts: a constant, a data operator with the number of its arguments, or a form over streams.
pub data Head : Type 0 where
  const : PlainValue → Head
  apply : Op → (arity : ℕ) → Head
  stream : Form → Head

mutual
  -- A tree: each node has the place of its own token.
  pub data PlainTree : Type 0 where
    form : (at : ℕ) → Head → (parts : PlainTrees) → PlainTree
    name : (at : ℕ) → (name : List ℕ) → PlainTree
    call : (at : ℕ) → (name : List ℕ) → (arguments : PlainTrees) → PlainTree
    block : (at : ℕ) → (subject : PlainTree) → PlainDefs → PlainTree

  pub data PlainTrees : Type 0 where
    no_trees : PlainTrees
    tree : PlainTree → PlainTrees → PlainTrees

  -- The definitions of a block, in order: of a plain name, of a function with its parameters and their places, of a current name.
  pub data PlainDefs : Type 0 where
    no_defs : PlainDefs
    defines : (at : ℕ) → (name : List ℕ) → (right : PlainTree) → PlainDefs → PlainDefs
    defines_function : (at : ℕ) → (name : List ℕ) → (parameters : List (List ℕ)) → (places : List ℕ) → (right : PlainTree) → PlainDefs → PlainDefs
    defines_current : (at : ℕ) → (name : List ℕ) → (right : PlainTree) → PlainDefs → PlainDefs

-- The heads of the forms over streams, where one is treated apart: `if` (choose), `and` (both), `or` (either), and the others by their words.
pattern abbrev pub choose : Head
choose = stream forms.If

pattern abbrev pub both : Head
both = stream forms.And

pattern abbrev pub either : Head
either = stream forms.Or

pattern abbrev pub first : Head
first = stream forms.First

pattern abbrev pub next : Head
next = stream forms.Next

pattern abbrev pub fby : Head
fby = stream forms.Fby

pattern abbrev pub whenever : Head
whenever = stream forms.Whenever

pattern abbrev pub asa : Head
asa = stream forms.Asa

pattern abbrev pub upon : Head
upon = stream forms.Upon

pattern abbrev pub attime : Head
attime = stream forms.Attime

pattern abbrev pub initial : Head
initial = stream forms.Initial

pattern abbrev pub succ : Head
succ = stream forms.Succ

pattern abbrev pub sby : Head
sby = stream forms.Sby

pattern abbrev pub atspace : Head
atspace = stream forms.Atspace

-- The forms by their own names.
pattern abbrev pub constant : ℕ → PlainValue → PlainTree
constant at v = form at (const v) no_trees

pattern abbrev pub first_of : ℕ → PlainTree → PlainTree
first_of at x = form at first (tree x no_trees)

pattern abbrev pub next_of : ℕ → PlainTree → PlainTree
next_of at x = form at next (tree x no_trees)

pattern abbrev pub fby_of : ℕ → PlainTree → PlainTree → PlainTree
fby_of at x y = form at fby (tree x (tree y no_trees))

pattern abbrev pub whenever_of : ℕ → PlainTree → PlainTree → PlainTree
whenever_of at x p = form at whenever (tree x (tree p no_trees))

pattern abbrev pub asa_of : ℕ → PlainTree → PlainTree → PlainTree
asa_of at x p = form at asa (tree x (tree p no_trees))

pattern abbrev pub upon_of : ℕ → PlainTree → PlainTree → PlainTree
upon_of at x p = form at upon (tree x (tree p no_trees))

pattern abbrev pub attime_of : ℕ → PlainTree → PlainTree → PlainTree
attime_of at x y = form at attime (tree x (tree y no_trees))

pattern abbrev pub initial_of : ℕ → PlainTree → PlainTree
initial_of at x = form at initial (tree x no_trees)

pattern abbrev pub succ_of : ℕ → PlainTree → PlainTree
succ_of at x = form at succ (tree x no_trees)

pattern abbrev pub sby_of : ℕ → PlainTree → PlainTree → PlainTree
sby_of at x y = form at sby (tree x (tree y no_trees))

pattern abbrev pub atspace_of : ℕ → PlainTree → PlainTree → PlainTree
atspace_of at x y = form at atspace (tree x (tree y no_trees))

pattern abbrev pub if_of : ℕ → PlainTree → PlainTree → PlainTree → PlainTree
if_of at c x y = form at choose (tree c (tree x (tree y no_trees)))

pattern abbrev pub and_of : ℕ → PlainTree → PlainTree → PlainTree
and_of at x y = form at both (tree x (tree y no_trees))

pattern abbrev pub or_of : ℕ → PlainTree → PlainTree → PlainTree
or_of at x y = form at either (tree x (tree y no_trees))
