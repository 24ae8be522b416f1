-- The last of some values.
use Rattle.std.proofs.Common.{◌≡◌, ℕ, ◌-◌, List, length, map, take, drop, ap, sym, ◌∙◌}
use Rattle.std.proofs.lemmas.List.{take_rest, drop-map, length-map}

pub last_mapped : {X Y : Type 0} (f : X → Y) (xs : List X) (k : ℕ) → k ≡ length xs - 1
    → map f (take (length xs - k) (drop k xs)) ≡ drop (length (map f xs) - 1) (map f xs)
last_mapped f xs k e =
    ap (λ (z : List _). map f z) (take_rest xs k) ∙ sym (drop-map f k xs)
    ∙ ap (λ (n : ℕ). drop n (map f xs)) (e ∙ ap (λ (n : ℕ). n - 1) (sym (length-map xs f)))
