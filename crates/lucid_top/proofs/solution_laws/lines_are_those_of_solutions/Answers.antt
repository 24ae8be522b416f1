use Rattle.lucid_top.proofs.Solutions.{writes-its-lines}
use Rattle.lucid_top.proofs.solution_laws.lines_are_those_of_solutions.Goals as goal

pub returns : goal.returns
returns g c = writes-its-lines g.R.SolvedRun.call g.R.SolvedRun.runs g.R.SolvedRun.family g.R.SolvedRun.solves
