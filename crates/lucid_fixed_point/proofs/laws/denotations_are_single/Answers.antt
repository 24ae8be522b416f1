use Rattle.lucid_fixed_point.proofs.Common.{meanings}
use Rattle.lucid_fixed_point.proofs.Chains.{within-itself}
use Rattle.lucid_fixed_point.proofs.Single.{denotation-single, meanings-are-single}
use Rattle.lucid_fixed_point.proofs.Solved.{meanings-are-continuous}
use Rattle.lucid_fixed_point.proofs.laws.denotations_are_single.Goals as goal

pub returns : goal.returns
returns c = λ b env e. denotation-single e (meanings b env) (within-itself (meanings b env) (meanings-are-continuous b env).monotone) (meanings-are-single b env)
