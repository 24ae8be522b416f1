-- Taking trees off a pile one by one.
use Rattle.lucid_parse.proofs.Common.{◌≡◌, ℕ, zero, suc, ◌+◌, ◌<◌, ◌≤◌, List, [], ◌∷◌, ◌++◌, length, reverse, Option, refl, sym, ◌∙◌, ap, arith, length-append, reverse-append, PlainTree, no_trees, tree, trees_of, gather}
use Rattle.std.proofs.Common.{◌-◌}

-- the number that are still to be taken is one more than after the next
left_over : (count i : ℕ) → i < count → count - i ≡ suc (count - (i + 1))
left_over count i h = omega (arith, h)

-- one more is taken
pub gather_more : (count i : ℕ) (before after items next : List PlainTree) (last : PlainTree) → i < count → before ≡ last ∷ after → next ≡ items ++ last ∷ []
    → gather (count - i) before (trees_of (reverse items)) ≡ gather (count - (i + 1)) after (trees_of (reverse next))
gather_more count i before after items next last h e f =
    ap (λ n. gather n before (trees_of (reverse items))) (left_over count i h)
    ∙ ap (λ l. gather (suc (count - (i + 1))) l (trees_of (reverse items))) e
    ∙ ap (λ l. gather (count - (i + 1)) after (trees_of l)) (sym (reverse-append items (last ∷ [])))
    ∙ ap (λ l. gather (count - (i + 1)) after (trees_of (reverse l))) (sym f)

pub length_more : (i : ℕ) (items next : List PlainTree) (last : PlainTree) → length items ≡ i → next ≡ items ++ last ∷ [] → length next ≡ i + 1
length_more i items next last e f = ap length f ∙ length-append items (last ∷ []) ∙ ap (λ n. n + 1) e
