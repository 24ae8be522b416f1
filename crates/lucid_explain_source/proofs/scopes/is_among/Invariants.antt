use Rattle.lucid_explain_source.proofs.Common.{◌≡◌, drop, nat_eq, list_any}
use Rattle.lucid_explain_source.proofs.scopes.is_among.Given as goal

abbrev pub invariant-loop-place : goal.invariant-loop-place
invariant-loop-place l = list_any (λ place. nat_eq place l.at) l.places ≡ list_any (λ place. nat_eq place l.at) (drop l.place-index l.places)
