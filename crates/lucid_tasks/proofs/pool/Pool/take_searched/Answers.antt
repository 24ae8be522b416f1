use Rattle.lucid_tasks.proofs.Common.{sym}
use Rattle.lucid_tasks.proofs.NumberedLemmas.{value_in_gap, unset}
use Rattle.lucid_tasks.proofs.pool.Pool.take_searched.Goals as goal

pub returns-in-Err-clause-value : goal.returns-in-Err-clause-value
returns-in-Err-clause-value c = sym (value_in_gap c.args.self.now.0 c.args.number c.in-Err.field-0 c.in-Err.ensures.absent)

pub returns-in-Err-clause-values : goal.returns-in-Err-clause-values
returns-in-Err-clause-values c = unset c.args.self.now.0 c.args.number (value_in_gap c.args.self.now.0 c.args.number c.in-Err.field-0 c.in-Err.ensures.absent)
