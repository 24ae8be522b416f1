-- The search for the first name that is no column.
use Rattle.lucid_columns.proofs.Common.{◌≡◌, ℕ, ◌+◌, false, List, ◌∷◌, Some, refl, sym, ap, ◌∙◌, subst, arith, inl, inr, IsTrue, slice_get, PlainTree, tree_of, Block, AreColumnsBelow, Box, Global, cases_lt}
use Rattle.lucid_tree.specs.declared.tree.Kind.{Kind}
use Rattle.lucid_tree.specs.declared.tree.Kind.TheVariants.{Scope}
use Rattle.lucid_columns.specs.Columns.{is_column, IsFirstMissing}

-- one column more
pub one_more : (e : PlainTree) (ns : List (List ℕ)) (i k : ℕ) (n : List ℕ) → AreColumnsBelow e ns i → slice_get ns i ≡ Some n → IsTrue (is_column e n)
    → k ≡ i + 1 → AreColumnsBelow e ns k
one_more e ns i k n below is good next j m lt at = elim (cases_lt j i) [
  | inl lower ↦ below j m lower at
  | inr le ↦
      let same : j ≡ i = omega (arith, le, lt, next) in
      let name : ◌≡◌ (Some n) (Some m) = sym is ∙ ap (slice_get ns) (sym same) ∙ at in
      subst (λ x. IsTrue (is_column e x)) (cc name) good
]

-- a program that is no block has none
no_block : (at : ℕ) (k : Kind) → ((b : Box Block Global) → k ≡ Scope b → ⊥) → (n : List ℕ) → is_column (tree_of at k) n ≡ false
no_block at (Scope b) h n = absurd (h b refl)
no_block at _ h n = refl

pub first_missing : (e : PlainTree) (at : ℕ) (k : Kind) (columns : List (List ℕ)) (n : List ℕ) (ns : List (List ℕ)) → tree_of at k ≡ e
    → ((b : Box Block Global) → k ≡ Scope b → ⊥)
    → columns ≡ n ∷ ns → IsFirstMissing e columns 0
first_missing e at k columns n ns is other named = record {
  before = λ j m lt there. absurd (omega (arith, lt));
  name = n;
  is = ap (λ xs. slice_get xs 0) named;
  missing = subst (λ p. is_column p n ≡ false) is (no_block at k other n);
}
