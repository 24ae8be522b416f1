use Rattle.lucid_flat.proofs.SoundCommon.{◌≡◌, ◌<◌, ℕ, length, drop, max, slice_index, wanted}
use Rattle.lucid_flat.proofs.places.wants_of.Given as goal

-- what is noted, and what the names from this one on ask for, is what is wanted
abbrev pub invariant-loop-row : goal.invariant-loop-row
invariant-loop-row l = record {
  all : length l.wants.items ≡ l.scopes;
  each : (s : ℕ) → s < l.scopes → max (slice_index l.wants.items s) (wanted (drop l.row-index l.names) s) ≡ wanted l.names s;
}
