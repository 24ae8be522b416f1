use Rattle.lucid_equations.proofs.Plans.{steps_are_of_plans}
use Rattle.lucid_equations.proofs.laws.steps_are_of_plans.Goals as goal

pub returns : goal.returns
returns c = steps_are_of_plans
