use Rattle.lucid_explain_errors.proofs.Walking.{arises}
use Rattle.lucid_explain_errors.proofs.laws.values_arise_at_the_end.Goals as goal

pub returns : goal.returns
returns c = λ x js i end passed leads. arises x js leads
