-- The sum of delays, one delay further.
use Rattle.lucid_cycles.proofs.Common.{◌≡◌, ℕ, zero, suc, ◌+◌, ◌*◌, ◌<◌, List, [], ◌∷◌, length, get_or, drop, refl, sym, ap, ◌∙◌, arith, add-one, ℤ, pos, ◌+ℤ◌, ◌≤ℤ◌, ints, to_z-of_z, total}
use mir.Syntax.{w64, w128}
use mir.Val.{SFits, to_z, of_z}

total-drop : (xs : List ℤ) (i : ℕ) → i < length xs → total (drop i xs) ≡ get_or xs i (pos 0) +ℤ total (drop (suc i) xs)
total-drop [] i h = absurd (omega (arith, h))
total-drop (x ∷ xs) zero h = refl
total-drop (x ∷ xs) (suc i) h = total-drop xs i (omega (arith, h))

-- a sum and a delay, as they are added
abbrev pub added : ℤ → ℤ → ℤ
added s d = to_z w128 (of_z w128 (s +ℤ to_z w128 (of_z w128 d)))

-- the sum of the first i delays, of which each is within 2^63
pub record Summed (xs : List ℤ) (i : ℕ) (s : ℤ) : Type 0 where
  pub rest : (s +ℤ total (drop i xs)) ≡ total xs
  pub low : pos 0 ≤ℤ (s +ℤ pos (9223372036854775808 * i))
  pub high : s ≤ℤ pos (9223372036854775808 * i)

plain : (i : ℕ) (s d : ℤ) → i < 9223372036854775808 → SFits w64 d → pos 0 ≤ℤ (s +ℤ pos (9223372036854775808 * i)) → s ≤ℤ pos (9223372036854775808 * i)
    → added s d ≡ s +ℤ d
plain i s d short f low high =
    let one : SFits w128 d = omega (arith, ints) in
    let all : SFits w128 (s +ℤ d) = omega (arith, ints) in
    ap (λ x. to_z w128 (of_z w128 (s +ℤ x))) (to_z-of_z w128 d one) ∙ to_z-of_z w128 (s +ℤ d) all

further : (i : ℕ) (s d a t u w : ℤ) → SFits w64 d → a ≡ s +ℤ d → u ≡ d +ℤ t → (s +ℤ u) ≡ w → pos 0 ≤ℤ (s +ℤ pos (9223372036854775808 * i))
    → s ≤ℤ pos (9223372036854775808 * i)
    → ((a +ℤ t) ≡ w) × (pos 0 ≤ℤ (a +ℤ pos (9223372036854775808 * (i + 1)))) × (a ≤ℤ pos (9223372036854775808 * (i + 1)))
further i s d a t u w f e q r low high = (omega (arith, ints), omega (arith, ints), omega (arith, ints))

pub summed-more : (xs : List ℤ) (i : ℕ) (s d : ℤ) → i < length xs → length xs < 9223372036854775808 → SFits w64 d → d ≡ get_or xs i (pos 0) → Summed xs i s
    → Summed xs (i + 1) (added s d)
summed-more xs i s d h short f is q =
    let p = plain i s d (omega (arith, h, short)) f q.low q.high in
    let u : total (drop i xs) ≡ d +ℤ total (drop (i + 1) xs) = rw (add-one i) (total-drop xs i h ∙ ap (λ x. x +ℤ total (drop (suc i) xs)) (sym is)) in
    let r = further i s d (added s d) (total (drop (i + 1) xs)) (total (drop i xs)) (total xs) f p u q.rest q.low q.high in
    record { rest = r.0; low = r.1; high = r.2 }
