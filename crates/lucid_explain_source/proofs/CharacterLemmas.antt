-- Characters of which something is said, one more of them.
use Rattle.lucid_explain_source.proofs.Common.{◌≡◌, ℕ, ◌+◌, List, ◌∷◌, length, map, drop, get_or, ◌<◌, at_drop_more, Bor}
use Rattle.lucid_explain_source.specs.Characters.{bytes_and_advice, first_advice}

pub first_more : (rest : List ℕ) (those : List (Bor (List ℕ) × Bor (List ℕ))) (i : ℕ) (d : Bor (List ℕ) × Bor (List ℕ)) → i < length those
    → first_advice (map bytes_and_advice (drop i those)) rest
    ≡ first_advice (bytes_and_advice (get_or those i d) ∷ map bytes_and_advice (drop (i + 1) those)) rest
first_more rest those i d h = at_drop_more (λ cs. first_advice (map bytes_and_advice cs) rest) those i d h
