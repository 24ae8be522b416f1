use Rattle.lucid_tasks.proofs.Common.{ap, sym, Values}
use Rattle.lucid_tasks.proofs.NumberedLemmas.{found_value, value_in_gap}
use Rattle.lucid_tasks.proofs.pool.Pool.get.Goals as goal

pub returns-in-Ok : goal.returns-in-Ok
returns-in-Ok c = found_value c.args.self.now.0 c.self.inside.values.items (ap (λ (v : Values). v.0) c.self.view_is) c.args.number c.in-Ok.at c.self.invariant.0
    c.index.result.now c.in-Ok.ensures.found c.index.ensures

pub returns-in-Err : goal.returns-in-Err
returns-in-Err c = sym (value_in_gap c.args.self.now.0 c.args.number c.in-Err.field-0 c.in-Err.ensures.absent)
