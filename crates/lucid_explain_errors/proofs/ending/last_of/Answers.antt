use Rattle.lucid_value.specs.View.{plain}
use Rattle.lucid_explain_errors.proofs.Lasts.{last_mapped}
use Rattle.lucid_explain_errors.proofs.ending.last_of.Goals as goal

pub returns : goal.returns
returns c = last_mapped plain c.args.values.now c.saturating_sub.result c.saturating_sub.ensures
