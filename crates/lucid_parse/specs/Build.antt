-- A tree from its nodes: each node takes its parts from piles.
use Rattle.std.specs.Prelude.{◌≡◌, ℕ, zero, suc, List, [], ◌∷◌, ◌++◌, Option, Some, None, option_and_then, map, Result, Ok, Err, Bool, MatchBool, MatchOption, length, Vec}
use Rattle.std.specs.Option.{option_map}
use Rattle.std.specs.Global.{Global}
use Rattle.lucid_tree.specs.Tree.{const, PlainTree, form, name, call, block, PlainTrees, no_trees, tree}
use Rattle.lucid_tree.specs.Lists.{trees_of}
use Rattle.lucid_tree.specs.DefsView.{defs_of}
use Rattle.lucid_tree.specs.declared.tree.Def.{Def}
use Rattle.lucid_tree.specs.declared.tree.DefKind.{DefKind}
use Rattle.lucid_tree.specs.declared.tree.DefKind.TheVariants as def_kind
use Rattle.lucid_parse.specs.declared.state.Item.TheVariants as item
use Rattle.lucid_parse.specs.declared.state.Defines.{Defines}
use Rattle.lucid_parse.specs.declared.state.Defines.TheVariants as kind
use Rattle.lucid_parse.specs.declared.build.Piles as code
use Rattle.lucid_parse.specs.Grammar.{head, arity_of}
use Rattle.lucid_parse.specs.Machine.{PlainItem}

-- the trees, the lists of trees, of parameters and their places, and of definitions that no node has taken yet, the last first
pub record PlainPiles : Type 0 where
  pub trees : List PlainTree
  pub lists : List (List PlainTree)
  pub names : List (List (List ℕ))
  pub places : List (List ℕ)
  pub blocks : List (List Def)

abbrev pub piles : List PlainTree → List (List PlainTree) → List (List (List ℕ)) → List (List ℕ) → List (List Def) → PlainPiles
piles trees lists names places blocks = record { trees = trees; lists = lists; names = names; places = places; blocks = blocks }

abbrev pub no_piles : PlainPiles
no_piles = piles [] [] [] [] []

abbrev pub definition : ℕ → List ℕ → DefKind → Def
definition at n described = record { at = at; name = n; kind = described }

-- so many trees from the top of a pile, in order and in front of those taken before, and what is under them
abbrev pub gather : ℕ → List PlainTree → PlainTrees → Option (PlainTrees × List PlainTree)
gather zero rest parts = Some (parts, rest)
gather (suc more) [] parts = None
gather (suc more) (last ∷ rest) parts = gather more rest (tree last parts)

-- what a definition of this kind, with this right side, says of its name, and what is under a function's parameters on their piles
abbrev pub describe : Defines → PlainTree → List (List (List ℕ)) → List (List ℕ) → Option (DefKind × List (List (List ℕ)) × List (List ℕ))
describe kind.Plain right_side names places = Some (def_kind.Plain right_side, names, places)
describe kind.Current right_side names places = Some (def_kind.Current right_side, names, places)
describe kind.Function right_side (parameters ∷ names) (theirs ∷ places) = Some (def_kind.Function parameters theirs right_side, names, places)
describe _ _ _ _ = None

abbrev pub put : PlainItem → List PlainTree → List (List PlainTree) → List (List (List ℕ)) → List (List ℕ) → List (List Def) → Option PlainPiles
put (item.Const at value) trees lists names places blocks = Some (piles (form at (const value) no_trees ∷ trees) lists names places blocks)
put (item.Name at n) trees lists names places blocks = Some (piles (name at n ∷ trees) lists names places blocks)
put (item.Operator operator at) trees lists names places blocks =
    option_and_then (λ taken. Some (piles (form at (head operator) taken.0 ∷ taken.1) lists names places blocks)) (gather (arity_of operator) trees no_trees)
put item.NoTrees trees lists names places blocks = Some (piles trees ([] ∷ lists) names places blocks)
put item.More (last ∷ trees) (list ∷ lists) names places blocks = Some (piles trees ((list ++ last ∷ []) ∷ lists) names places blocks)
put (item.Call at n) trees (list ∷ lists) names places blocks = Some (piles (call at n (trees_of list) ∷ trees) lists names places blocks)
put item.NoNames trees lists names places blocks = Some (piles trees lists ([] ∷ names) ([] ∷ places) blocks)
put (item.Param at n) trees lists (parameters ∷ names) (theirs ∷ places) blocks = Some (piles trees lists ((parameters ++ n ∷ []) ∷ names) ((theirs ++ at ∷ []) ∷ places) blocks)
put item.NoDefs trees lists names places blocks = Some (piles trees lists names places ([] ∷ blocks))
put (item.Def defines at n) (right_side ∷ trees) lists names places (defs ∷ blocks) =
    option_and_then (λ all. Some (piles trees lists all.1 all.2 ((defs ++ definition at n all.0 ∷ []) ∷ blocks))) (describe defines right_side names places)
put (item.Block at) (subject ∷ trees) lists names places (defs ∷ blocks) = Some (piles (block at subject (defs_of defs) ∷ trees) lists names places blocks)
put _ _ _ _ _ _ = None

abbrev pub put_on : PlainItem → PlainPiles → Option PlainPiles
put_on node held = put node held.trees held.lists held.names held.places held.blocks

abbrev pub built : List PlainItem → PlainPiles → Option PlainPiles
built [] held = Some held
built (node ∷ more) held = option_and_then (built more) (put_on node held)

-- the plain form of a pile of lists, and of the code's piles
abbrev pub all_items : {A : Type 0} → List (Vec A Global) → List (List A)
all_items lists = map (λ list. list.items) lists

abbrev pub plain_piles : code.Piles → PlainPiles
plain_piles held = piles held.trees (all_items held.lists) (all_items held.names) (all_items held.places) (all_items held.blocks)

-- the node took its parts where the answer is true, and lacks one where it is false
abbrev pub Puts : {E : Type 0} → Result Bool E → code.Piles → Option PlainPiles → Type 0
Puts (Ok there) now wanted = MatchBool there (wanted ≡ Some (plain_piles now)) (wanted ≡ None)
Puts (Err error) now wanted = Unit {0}

-- the same where the right side is the tree on top of its pile, with what is under that too
abbrev pub kind_on : Defines → List PlainTree → List (List (List ℕ)) → List (List ℕ) → Option (DefKind × List PlainTree × List (List (List ℕ)) × List (List ℕ))
kind_on defines [] names places = None
kind_on defines (right_side ∷ trees) names places = option_map (λ all. (all.0, trees, all.1, all.2)) (describe defines right_side names places)

-- the description took its parts off the piles where there is one, and lacks them where there is none
abbrev pub Describes : Option DefKind → List PlainTree → List (Vec (List ℕ) Global) → List (Vec ℕ Global)
    → Option (DefKind × List PlainTree × List (List (List ℕ)) × List (List ℕ)) → Type 0
Describes (Some described) trees names places wanted = wanted ≡ Some (described, trees, all_items names, all_items places)
Describes None trees names places wanted = wanted ≡ None

-- a pile of lists with an item more at the end of the list on top, where there is one
abbrev pub with_item : {A : Type 0} → A → List (List A) → Option (List (List A))
with_item item [] = None
with_item item (list ∷ lists) = Some ((list ++ item ∷ []) ∷ lists)

-- the item was put there where the answer is true, and there is no list where it is false
abbrev pub Lengthens : {A E : Type 0} → Result Bool E → A → List (Vec A Global) → List (Vec A Global) → Type 0
Lengthens (Ok there) item before after = MatchBool there (with_item item (all_items before) ≡ Some (all_items after)) (with_item item (all_items before) ≡ None)
Lengthens (Err error) item before after = Unit {0}

-- so many trees were taken off the pile, where there were as many
abbrev pub Takes : ℕ → List PlainTree → Option (Vec PlainTree Global) → List PlainTree → Type 0
Takes count before taken after =
    MatchOption taken (gather count before no_trees ≡ None) (λ parts. (gather count before no_trees ≡ Some (trees_of parts.items, after)) × (length parts.items ≡ count))
