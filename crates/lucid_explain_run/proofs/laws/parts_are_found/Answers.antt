use Rattle.lucid_explain_run.proofs.Finding.{part-found}
use Rattle.lucid_explain_run.proofs.laws.parts_are_found.Goals as goal

pub returns : goal.returns
returns c = part-found
