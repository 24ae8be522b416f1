use Rattle.std.proofs.Common.{◌≡◌, ℕ, ◌-◌, List, [], length, map, drop, sym, subst, arith}
use Rattle.std.proofs.lemmas.List.{append-nil, at_drop_all}
use Rattle.lucid_explain_places.specs.declared.candidates.Candidate.{Candidate}
use Rattle.lucid_explain_places.specs.Standing.{text_and_told, AreFirst, ended}
use Rattle.lucid_explain_places.proofs.candidates.standing.Goals as goal

pub returns : goal.returns
returns c =
    let those = c.loop-candidate.those.items in
    let these = c.candidates-candidates.result.now in
    let P : List (List ℕ × List ℕ) → Type 0 = λ t. AreFirst c.args.source.now c.args.at 6 t those in
    let Q : List Candidate → Type 0 = λ t. AreFirst c.args.source.now c.args.at 6 (map text_and_told these) t in
    let R : List (List ℕ × List ℕ) → Type 0 = λ t. AreFirst c.args.source.now c.args.at (6 - length those) t [] in
    let none : map text_and_told (drop c.loop-candidate.candidate-index these) ≡ [] =
    at_drop_all (map text_and_told) these c.loop-candidate.candidate-index (omega (arith, c.loop-candidate-test.false)) in
    subst P c.candidates-candidates.ensures
    (subst Q (append-nil those) (c.loop-candidate.invariant.goes_on [] (subst R (sym none) (ended (6 - length those)))))
