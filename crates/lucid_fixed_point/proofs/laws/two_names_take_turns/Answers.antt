use Rattle.lucid_fixed_point.proofs.Programs.{two-names-take-turns}
use Rattle.lucid_fixed_point.proofs.laws.two_names_take_turns.Goals as goal

pub returns : goal.returns
returns c = two-names-take-turns
