-- What the loop of the printer writes is the rest of the names, one by one.
use Rattle.lucid_print.proofs.Common.{ℕ, List, [], ◌∷◌, ◌++◌, parted_more}

-- texts parted by commas, where these bytes stand before the first
abbrev pub led : List ℕ → List (List ℕ) → List ℕ
led b [] = []
led b (s ∷ ss) = b ++ (s ++ parted_more ss)
