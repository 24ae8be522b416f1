-- What is still to be written of a text, piece by piece, and how many steps that takes.
use Rattle.std.specs.Prelude.{◌≡◌, ℕ, ◌+◌, ◌≤◌, List, [], ◌∷◌, ◌++◌, codes}
use Rattle.lucid_value.specs.View.{plain}
use Rattle.lucid_tree.specs.Tree.{PlainTree, form, name, call, block, PlainTrees, no_trees, tree, PlainDefs, no_defs, defines, defines_function, defines_current}
use Rattle.lucid_tree.specs.declared.tree.DefKind.{DefKind}
use Rattle.lucid_tree.specs.declared.tree.DefKind.TheVariants.{Plain, Function, Current}
use Rattle.lucid_print.specs.declared.print.Piece.{Piece}
use Rattle.lucid_print.specs.declared.print.Piece.TheVariants.{Bytes, Constant, Names, Placed, More, Definitions}
use Rattle.lucid_print.specs.Canonical.{constant_text, placed, parted, parted_more, texts, parts, definitions}
use Rattle.lucid_print.specs.Views.{part_of}

-- the text of a piece
abbrev pub text_of : Piece → List ℕ
text_of (Bytes bs) = bs.now
text_of (Constant v) = constant_text (plain v.now)
text_of (Names ns) = parted ns.now
text_of (Placed e k) = placed k (part_of e.now)
text_of (More es) = parted_more (texts (parts es))
text_of (Definitions ds) = definitions ds

-- what stands between a definition's name and its right side
abbrev pub sign : DefKind → List ℕ
sign (Plain e) = codes " = "
sign (Function ps ats e) = codes "(" ++ parted ps ++ codes ") = "
sign (Current e) = codes " is current "

-- the text of all, the next one first
abbrev pub left : List Piece → List ℕ
left [] = []
left (p ∷ ps) = text_of p ++ left ps

-- No more steps than this are taken for a tree that is opened.
abbrev mutual
  pub work : PlainTree → ℕ
  work (form at h es) = work_in es + 3
  work (name at n) = 1
  work (call at n es) = work_in es + 3
  work (block at e ds) = work e + work_of_defs ds + 6

  pub work_in : PlainTrees → ℕ
  work_in no_trees = 0
  work_in (tree e es) = work e + work_in es + 5

  pub work_of_defs : PlainDefs → ℕ
  work_of_defs no_defs = 0
  work_of_defs (defines at n e ds) = work e + work_of_defs ds + 9
  work_of_defs (defines_function at n ps ats e ds) = work e + work_of_defs ds + 9
  work_of_defs (defines_current at n e ds) = work e + work_of_defs ds + 9

-- nor for a piece
abbrev pub steps_of : Piece → ℕ
steps_of (Placed e k) = work e.now + 3
steps_of (More es) = work_in es + 1
steps_of (Definitions ds) = work_of_defs ds + 1
steps_of p = 1

abbrev pub steps_left : List Piece → ℕ
steps_left [] = 0
steps_left (p ∷ ps) = steps_of p + steps_left ps

-- pieces of this text were put before those that were left, of at most so many steps
pub record Unfolds (o n : List Piece) (text : List ℕ) (steps : ℕ) : Type 0 where
  pub is : left n ≡ text ++ left o
  pub within : steps_left n ≤ steps + steps_left o
