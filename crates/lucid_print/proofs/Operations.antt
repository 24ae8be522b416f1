-- A form of these parts is written by its style.
use Rattle.lucid_print.proofs.Common.{◌≡◌, [], sym, ◌∙◌, ap, refl, PlainTree, PlainTrees, no_trees, tree, style, form_text, source, parts, Result, Ok, Err, OnOk}
use Rattle.lucid_print.specs.declared.style.Infix.{Infix}
use Rattle.lucid_print.specs.declared.style.Prefix.{Prefix}
use Rattle.lucid_print.specs.declared.style.Style as code
use Rattle.lucid_print.specs.Styles.{conditional}
use Rattle.lucid_print.specs.Views.{infix_style, prefix_style, seen_style}

-- what follows from what an answer promises
pub on_ok : {E P Q : Type 0} (r : Result (Unit {0}) E) → (P → Q) → OnOk r P → OnOk r Q
on_ok (Ok x) f h = f h
on_ok (Err e) f h = tt

-- the text of another number of parts than the style has is none
pub not_one : (o : Prefix) (es : PlainTrees) → ((x : PlainTree) → es ≡ tree x no_trees → ⊥) → form_text (prefix_style o) (parts es) ≡ []
unfolding source
not_one o (tree x no_trees) other = absurd (other x refl)
not_one o es other = refl

pub not_two : (o : Infix) (es : PlainTrees) → ((x y : PlainTree) → es ≡ tree x (tree y no_trees) → ⊥) → form_text (infix_style o) (parts es) ≡ []
unfolding source
not_two o (tree x (tree y no_trees)) other = absurd (other x y refl)
not_two o es other = refl

pub not_three : (es : PlainTrees) → ((x y z : PlainTree) → es ≡ tree x (tree y (tree z no_trees)) → ⊥) → form_text conditional (parts es) ≡ []
unfolding source
not_three (tree x (tree y (tree z no_trees))) other = absurd (other x y z refl)
not_three es other = refl

-- the text of a style and parts is that of what they are
pub as_written : (s z : code.Style) (es fs : PlainTrees) → s ≡ z → es ≡ fs → form_text (seen_style z) (parts fs) ≡ form_text (seen_style s) (parts es)
as_written s z es fs is all = sym (ap (λ x. form_text (seen_style x) (parts es)) is ∙ ap (λ l. form_text (seen_style z) (parts l)) all)
