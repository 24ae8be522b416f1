use Rattle.lucid_explain_source.proofs.Common.{arith}
use Rattle.lucid_explain_source.proofs.Stuck.{bad_within}
use Rattle.lucid_explain_source.proofs.advice.put_bad_byte.Goals as goal

pub bad_advice_at-advice-requires : goal.bad_advice_at-advice-requires
bad_advice_at-advice-requires c = (bad_within c.args.source.now c.args.at c.requires).0

pub put_advice-requires-clause-within : goal.put_advice-requires-clause-within
put_advice-requires-clause-within c = omega (arith, (bad_within c.args.source.now c.args.at c.requires).0)
