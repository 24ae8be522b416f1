use Rattle.lucid_fixed_point.proofs.Unfolding.{first-of-fby-in-programs}
use Rattle.lucid_fixed_point.proofs.laws.first_of_fby_in_programs.Goals as goal

pub returns : goal.returns
returns c = first-of-fby-in-programs
