use Rattle.lucid_fixed_point.proofs.Common.{equations}
use Rattle.lucid_fixed_point.proofs.Chains.{within-itself}
use Rattle.lucid_fixed_point.proofs.Monotone.{equations-grow}
use Rattle.lucid_fixed_point.proofs.Solved.{least-below}
use Rattle.lucid_fixed_point.proofs.laws.blocks_have_least_solutions.Goals as goal

pub returns : goal.returns
returns g c = λ n t s v.
    let ds = g.S.Solution.definitions in
    let z = g.S.Solution.opened in
    let r = g.S.Solution.outside in
    let h = least-below (equations ds z r) (equations-grow ds z r r (within-itself r g.S.Solution.monotone)) g.S.Solution.means g.S.Solution.solves in
    (h.streams n t s v, h.maps n g.A.Arguments.streams t s v)
