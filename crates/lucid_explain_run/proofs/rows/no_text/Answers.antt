use Rattle.lucid_explain_run.specs.Judgments.{no_text}
use Rattle.lucid_explain_run.proofs.rows.no_text.Goals as goal

pub returns : goal.returns
returns c = no_text c.args.line c.requires
