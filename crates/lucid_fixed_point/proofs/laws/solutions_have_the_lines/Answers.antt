use Rattle.lucid_fixed_point.proofs.Families.{written-by-family}
use Rattle.lucid_fixed_point.proofs.laws.solutions_have_the_lines.Goals as goal

pub returns : goal.returns
returns g c = written-by-family g.S.FamilyOfSolutions.family g.S.FamilyOfSolutions.inputs g.S.FamilyOfSolutions.program g.S.FamilyOfSolutions.solves
