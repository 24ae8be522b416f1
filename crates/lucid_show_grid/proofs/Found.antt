-- The column of a time that is later than all before.
use Rattle.std.proofs.Common.{◌≡◌, ℕ, zero, suc, ◌+◌, ◌<◌, List, [], ◌∷◌, length, get_or, arith}
use Rattle.std.specs.Prelude.{◌==◌, if◌then◌else◌}
use Rattle.std.proofs.lemmas.Grind.{common_steps}
use Rattle.lucid_show_grid.specs.Places.{index_of}

here : (u t n : ℕ) → u ≡ t → (if u == t then 0 else n) ≡ 0
here u t n e = grind (arith, common_steps)

there : (u t n i : ℕ) → u < t → n ≡ i → (if u == t then 0 else n + 1) ≡ suc i
there u t n i h e = grind (arith, common_steps)

pub first_at : (ts : List ℕ) (t i : ℕ) → i < length ts → ((k : ℕ) → k < i → get_or ts k 0 < t) → get_or ts i 0 ≡ t → index_of ts t ≡ i
first_at [] t i h before is = absurd (omega arith)
first_at (u ∷ us) t zero h before is = here u t (index_of us t + 1) is
first_at (u ∷ us) t (suc i) h before is =
    there u t (index_of us t) i (before 0 (omega arith)) (first_at us t i (omega arith) (λ k b. before (suc k) (omega arith)) is)
