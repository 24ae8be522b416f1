use Rattle.lucid_fixed_point.proofs.Common.{meanings}
use Rattle.lucid_fixed_point.proofs.Solved.{block-solves, block-solved, meanings-are-continuous}
use Rattle.lucid_fixed_point.proofs.laws.scopes_solve_their_equations.Goals as goal

pub returns : goal.returns
returns g c = λ b ds z rest n t s v.
    let r = meanings b rest in
    let h = meanings-are-continuous b rest in
    let a = g.A.Arguments.streams in (
      ((block-solves ds z r h).streams n t s v, (block-solved ds z r h).streams n t s v),
      ((block-solves ds z r h).maps n a t s v, (block-solved ds z r h).maps n a t s v),
    )
