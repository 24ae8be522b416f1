use Rattle.lucid_explain_source.proofs.Common.{arith}
use Rattle.lucid_explain_source.proofs.Stuck.{open_within}
use Rattle.lucid_explain_source.proofs.advice.put_open_text.Goals as goal

pub open_advice_at-advice-requires : goal.open_advice_at-advice-requires
open_advice_at-advice-requires c = (open_within c.args.source.now c.args.at c.requires).0

pub put_advice-requires-clause-within : goal.put_advice-requires-clause-within
put_advice-requires-clause-within c = omega (arith, (open_within c.args.source.now c.args.at c.requires).0)
