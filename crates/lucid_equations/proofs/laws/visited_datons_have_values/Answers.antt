use Rattle.lucid_equations.proofs.Needs.{daton-value, daton-needs}
use Rattle.lucid_equations.proofs.VisitsGrow.{visited-needed}
use Rattle.lucid_equations.proofs.laws.visited_datons_have_values.Goals as goal

pub returns-clause-values : goal.returns-clause-values
returns-clause-values z = daton-value

pub returns-clause-needed : goal.returns-clause-needed
returns-clause-needed z = daton-needs

pub returns-clause-visited : goal.returns-clause-visited
returns-clause-visited z = visited-needed
