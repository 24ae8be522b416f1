-- Programs with places in which a tree may be put: contexts, and exchange of what denotes the same.
use Rattle.std.specs.Prelude.{ℕ, List, ◌↔◌}
use Rattle.lucid_value.specs.Plain.{PlainValue}
use Rattle.lucid_tree.specs.Tree.{Head, PlainTree, form, name, call, block, PlainTrees, no_trees, tree, PlainDefs, no_defs, defines, defines_function, defines_current}
use Rattle.lucid_fixed_point.specs.Streams.{Meanings}
use Rattle.lucid_fixed_point.specs.Order.{IsContinuous}
use Rattle.lucid_fixed_point.specs.Denotation.{denotation}

mutual
  -- a tree with any number of places, also none
  pub data Context : Type 0 where
    place : Context
    form_of : (at : ℕ) → Head → Contexts → Context
    name_of : (at : ℕ) → (name : List ℕ) → Context
    call_of : (at : ℕ) → (name : List ℕ) → Contexts → Context
    block_of : (at : ℕ) → (subject : Context) → DefContexts → Context

  pub data Contexts : Type 0 where
    no_contexts : Contexts
    context : Context → Contexts → Contexts

  pub data DefContexts : Type 0 where
    no_definitions : DefContexts
    is_plain : (at : ℕ) → (name : List ℕ) → (right : Context) → DefContexts → DefContexts
    is_function : (at : ℕ) → (name : List ℕ) → (parameters : List (List ℕ)) → (places : List ℕ) → (right : Context) → DefContexts → DefContexts
    is_current : (at : ℕ) → (name : List ℕ) → (right : Context) → DefContexts → DefContexts

abbrev mutual
  -- the tree in each of the places
  pub fill : Context → PlainTree → PlainTree
  fill place x = x
  fill (form_of at f es) x = form at f (fill_all es x)
  fill (name_of at n) x = name at n
  fill (call_of at n es) x = call at n (fill_all es x)
  fill (block_of at e ds) x = block at (fill e x) (fill_definitions ds x)

  pub fill_all : Contexts → PlainTree → PlainTrees
  fill_all no_contexts x = no_trees
  fill_all (context e es) x = tree (fill e x) (fill_all es x)

  pub fill_definitions : DefContexts → PlainTree → PlainDefs
  fill_definitions no_definitions x = no_defs
  fill_definitions (is_plain at n e ds) x = defines at n (fill e x) (fill_definitions ds x)
  fill_definitions (is_function at n ns ats e ds) x = defines_function at n ns ats (fill e x) (fill_definitions ds x)
  fill_definitions (is_current at n e ds) x = defines_current at n (fill e x) (fill_definitions ds x)

-- The trees denote the same, whatever names mean whose functions are continuous, as those of programs are.
abbrev pub DenoteTheSame : PlainTree → PlainTree → Type 1
DenoteTheSame x y = (r : Meanings) → IsContinuous r → (t s : ℕ) (v : PlainValue) → denotation x r t s v ↔ denotation y r t s v
