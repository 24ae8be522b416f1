use Rattle.lucid_equations.proofs.CallsEnter.{calls-enter}
use Rattle.lucid_equations.proofs.laws.calls_enter_their_contexts.Goals as goal

pub returns : goal.returns
returns c = calls-enter
