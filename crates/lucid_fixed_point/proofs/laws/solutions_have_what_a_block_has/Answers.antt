use Rattle.lucid_fixed_point.proofs.Common.{subst, equations, denotation, least}
use Rattle.lucid_fixed_point.proofs.Chains.{within-itself}
use Rattle.lucid_fixed_point.proofs.Monotone.{denotation-grows, equations-grow}
use Rattle.lucid_fixed_point.proofs.Solved.{least-lies}
use Rattle.lucid_fixed_point.proofs.laws.solutions_have_what_a_block_has.Goals as goal

pub returns : goal.returns
returns g c = λ at e t s v o d.
    let ds = g.S.Solution.definitions in
    let z = g.S.Solution.opened in
    let r = g.S.Solution.outside in
    let l = least-lies (equations ds z r) (equations-grow ds z r r (within-itself r g.S.Solution.monotone)) g.S.Solution.means g.S.Solution.solves in
    denotation-grows e (least (equations ds z r)) g.S.Solution.means l t s v (subst (λ y. denotation e (least (equations ds y r)) t s v) o d)
