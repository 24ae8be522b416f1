-- What is appended for one item more.
use Rattle.std.proofs.Common.{◌≡◌, ℕ, ◌+◌, ◌<◌, List, [], ◌∷◌, ◌++◌, length, take, get_or, ap, sym, ◌∙◌}
use Rattle.std.specs.List.{flat_map}
use Rattle.std.proofs.lemmas.List.{take_more, flat_map_more}

pub flat_step : {X : Type 0} (f : X → List ℕ) (old new : List ℕ) (xs : List X) (i : ℕ) (x : X) → i < length xs → x ≡ get_or xs i x
    → new ≡ (old ++ flat_map f (take i xs)) ++ f x → new ≡ old ++ flat_map f (take (i + 1) xs)
flat_step {X} f old new xs i x h is e =
    e
    ∙ flat_map_more f old (take i xs) x
    ∙ ap (λ (y : X). old ++ flat_map f (take i xs ++ y ∷ [])) is
    ∙ ap (λ (ys : List X). old ++ flat_map f ys) (sym (take_more xs i x h))
