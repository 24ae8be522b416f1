use Rattle.lucid_explain_run.specs.Parts.{all_parts}
use Rattle.lucid_explain_run.proofs.Finding.{found-stands}
use Rattle.lucid_explain_run.proofs.laws.found_parts_stand_there.Goals as goal

pub returns : goal.returns
returns c e x at h = found-stands at (all_parts e) x h
