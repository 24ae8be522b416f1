-- Lists of trees and of definitions, from their items on.
use Rattle.lucid_tree.proofs.Common.{◌≡◌, ℕ, List, [], ◌∷◌, ◌++◌, length, refl, sym, ap, subst, ◌∙◌, count, Head, form, PlainTree, PlainTrees, no_trees, tree, PlainDefs, no_defs, trees_of, listed, defs_of, rights, Def, Plain, Function, Current}
use Rattle.lucid_tree.specs.DefsView.{one_def}
use Rattle.lucid_tree.specs.Rights.{right_of}
use Rattle.lucid_tree.specs.Parts.{parts_of}
use Rattle.lucid_tree.specs.Shape.{FitsHead}
use Rattle.lucid_tree.proofs.Counts.{count_listed}

pub trees_of_listed : (es : PlainTrees) → trees_of (listed es) ≡ es
trees_of_listed no_trees = refl
trees_of_listed (tree e es) = ap (tree e) (trees_of_listed es)

-- these definitions, and then the others
abbrev pub before : List Def → PlainDefs → PlainDefs
before [] es = es
before (d ∷ ds) es = one_def d (before ds es)

pub before_more : (ds : List Def) (d : Def) (es : PlainDefs) → before (ds ++ d ∷ []) es ≡ before ds (one_def d es)
before_more [] d es = refl
before_more (c ∷ ds) d es = ap (one_def c) (before_more ds d es)

pub before_none : (ds : List Def) → before ds no_defs ≡ defs_of ds
before_none [] = refl
before_none (d ∷ ds) = ap (one_def d) (before_none ds)

pub rights_more : (d : Def) (es : PlainDefs) → rights (one_def d es) ≡ right_of d.kind ∷ rights es
rights_more d es = elim d.kind as (λ k. rights (one_def (record d { kind = k }) es) ≡ right_of k ∷ rights es)
    [ Plain e ↦ refl | Function ps ats e ↦ refl | Current e ↦ refl ]

-- A form over the copies of its parts is the form, and fits its head as it does.
pub copied_form : (h : Head) (at : ℕ) (es : PlainTrees) (e : PlainTree) (xs : List PlainTree) → form at h es ≡ e → xs ≡ parts_of e → form at h (trees_of xs) ≡ e
copied_form h at es e xs s p = ap (form at h) (ap trees_of (p ∙ sym (ap parts_of s)) ∙ trees_of_listed es) ∙ s

pub copies_fit : (h : Head) (at : ℕ) (es : PlainTrees) (e : PlainTree) (xs : List PlainTree) → form at h es ≡ e → xs ≡ parts_of e → FitsHead h (count es)
    → FitsHead h (length xs)
copies_fit h at es e xs s p f =
    subst (FitsHead h) (sym (ap count (trees_of_listed es)) ∙ count_listed (listed es) ∙ ap length (sym (p ∙ sym (ap parts_of s)))) f
