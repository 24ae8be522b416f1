use Rattle.lucid_top.proofs.Solutions.{has-its-stream}
use Rattle.lucid_top.proofs.solution_laws.the_least_has_what_the_program_has.Goals as goal

pub returns : goal.returns
returns g c = has-its-stream g.R.Run.call g.R.Run.runs
