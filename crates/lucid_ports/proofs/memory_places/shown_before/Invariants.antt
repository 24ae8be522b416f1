use Rattle.lucid_ports.proofs.Common.{◌≡◌, ◌⊎◌, ℕ, ◌+◌, ◌<◌, ◌≤◌, Contains, get_or, FailAt, fail_at}
use Rattle.lucid_ports.proofs.memory_places.shown_before.Given as goal

abbrev pub invariant-loop-failure : goal.invariant-loop-failure
invariant-loop-failure l = record {
  bound : l.shown ≤ l.left;
  before : (j : ℕ) (d : FailAt) → j < l.failure-index → (get_or l.failures j d).place ≡ l.place → l.position ≤ (get_or l.failures j d).position
      → l.position + l.shown ≤ (get_or l.failures j d).position;
  whole : (l.shown ≡ l.left) ⊎ Contains l.failures (fail_at l.place (l.position + l.shown));
}
