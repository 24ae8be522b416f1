use Rattle.std.proofs.Common.{◌-◌, ◌≤◌, List, ◌++◌, length, map, drop}
use Rattle.lucid_explain_places.specs.declared.candidates.Candidate.{Candidate}
use Rattle.lucid_explain_places.specs.Standing.{text_and_told, AreFirst}
use Rattle.lucid_explain_places.proofs.candidates.standing.Given as goal

abbrev pub invariant-loop-candidate : goal.invariant-loop-candidate
invariant-loop-candidate l = record {
  few : length l.those.items ≤ 6;
  goes_on : (more : List Candidate) → AreFirst l.source l.at (6 - length l.those.items) (map text_and_told (drop l.candidate-index l.candidates)) more
      → AreFirst l.source l.at 6 (map text_and_told l.candidates) (l.those.items ++ more);
}
