use Rattle.lucid_tasks.proofs.Common.{ap, vec_capacity, Values}
use Rattle.lucid_tasks.proofs.NumberedLemmas.{found_value, found_removed, found_keeps}
use Rattle.lucid_tasks.proofs.pool.Pool.take_inside.Goals as goal

pub invariant_of-self : goal.invariant_of-self
invariant_of-self c = found_keeps c.args.self.now.0 c.self.inside.values.items (ap (λ (v : Values). v.0) c.self.view_is) c.args.number c.args.at
    c.self.invariant.0 c.remove.result (vec_capacity c.self.inside.values) (vec_capacity c.remove.new.self) c.remove.new.self.items c.requires
    c.self.invariant.1 c.remove.ensures.capacity c.remove.ensures.items

pub returns-clause-value : goal.returns-clause-value
returns-clause-value c = found_value c.args.self.now.0 c.self.inside.values.items (ap (λ (v : Values). v.0) c.self.view_is) c.args.number c.args.at
    c.self.invariant.0 c.remove.result c.requires c.remove.ensures.value

pub returns-clause-values : goal.returns-clause-values
returns-clause-values c = found_removed c.args.self.now.0 c.self.inside.values.items (ap (λ (v : Values). v.0) c.self.view_is) c.args.number c.args.at
    c.self.invariant.0 c.remove.result c.remove.new.self.items c.requires c.remove.ensures.items
