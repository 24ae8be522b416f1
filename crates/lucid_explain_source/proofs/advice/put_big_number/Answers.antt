use Rattle.lucid_explain_source.proofs.Common.{arith}
use Rattle.lucid_explain_source.proofs.Stuck.{big_within}
use Rattle.lucid_explain_source.proofs.advice.put_big_number.Goals as goal

pub put_advice-requires-clause-within : goal.put_advice-requires-clause-within
put_advice-requires-clause-within c = omega (arith, (big_within c.args.source.now c.args.at c.requires).0)
