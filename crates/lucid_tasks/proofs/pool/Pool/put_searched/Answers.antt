use Rattle.lucid_tasks.proofs.Common.{ap, Values}
use Rattle.lucid_tasks.proofs.NumberedLemmas.{not_found}
use Rattle.lucid_tasks.proofs.pool.Pool.put_searched.Goals as goal

pub unreachable-requires : goal.unreachable-requires
unreachable-requires c = not_found c.args.self.now.0 c.self.inside.values.items (ap (λ (v : Values). v.0) c.self.view_is) c.args.number c.in-Ok.field-0
    c.self.invariant.0 (c.args.number, c.args.value) c.in-Ok.ensures.found c.requires.absent
