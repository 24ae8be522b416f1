use Rattle.lucid_fixed_point.proofs.Families.{derived-by-family}
use Rattle.lucid_fixed_point.proofs.laws.solutions_have_what_is_derived.Goals as goal

pub returns : goal.returns
returns g c = derived-by-family g.S.FamilyOfSolutions.family g.S.FamilyOfSolutions.inputs g.S.FamilyOfSolutions.program g.S.FamilyOfSolutions.solves
