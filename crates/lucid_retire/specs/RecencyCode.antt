-- The policy is stored as its room.
use Rattle.std.specs.Prelude.{ℕ, refl}
use Rattle.std.specs.Coded.{Coded, code_by, coded_ℕ}
use Rattle.lucid_retire.specs.Recency.{Recency}

abbrev pub recency_code : Coded Recency
recency_code = code_by ℕ coded_ℕ (λ r. r.room) (λ n. record { room = n }) (λ _. refl)
