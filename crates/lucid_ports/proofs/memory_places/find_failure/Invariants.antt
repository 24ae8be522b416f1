use Rattle.lucid_ports.proofs.Common.{◌≡◌, ℕ, ◌<◌, get_or, fail_at}
use Rattle.lucid_ports.proofs.memory_places.find_failure.Given as goal

abbrev pub invariant-loop-k : goal.invariant-loop-k
invariant-loop-k l =
    let wanted = fail_at l.place l.position in
    (j : ℕ) → j < l.k → get_or l.failures j wanted ≡ wanted → ⊥
