-- Lists of trees, counted.
use Rattle.lucid_tree.proofs.Common.{◌≡◌, List, [], ◌∷◌, length, refl, arith, PlainTree, count, trees_of}

pub count_listed : (xs : List PlainTree) → count (trees_of xs) ≡ length xs
count_listed [] = refl
count_listed (x ∷ xs) = omega (arith, count_listed xs)
