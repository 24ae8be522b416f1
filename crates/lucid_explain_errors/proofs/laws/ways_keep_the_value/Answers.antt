use Rattle.lucid_explain_errors.proofs.Walking.{keeps}
use Rattle.lucid_explain_errors.proofs.laws.ways_keep_the_value.Goals as goal

pub returns : goal.returns
returns c = λ x js i end passed has leads. keeps x js has leads
