use Rattle.lucid_fixed_point.proofs.Calls.{calls-unfold}
use Rattle.lucid_fixed_point.proofs.laws.calls_unfold.Goals as goal

pub returns : goal.returns
returns c = calls-unfold
