use Rattle.lucid_tasks.proofs.Common.{◌≡◌, ◌+◌, ◌-◌, ◌<◌, length, ap, rules, Values}
use Rattle.lucid_tasks.proofs.NumberedLemmas.{between_last}
use Rattle.lucid_tasks.proofs.pool.Pool.place.Goals as goal

pub returns-then-before-number-clause-absent : goal.returns-then-before-number-clause-absent
returns-then-before-number-clause-absent c =
    let next : c.len-end.result - 1 ≡ c.len-end.result - 2 + 1 = search rules in
    let len : c.len-end.result - 1 + 1 ≡ length c.self.inside.values.items = search rules in
    let less : c.index-2.result.now.0 < c.args.number = search rules in
    let more : c.args.number < c.index.result.now.0 = search rules in
    between_last c.args.self.now.0 c.self.inside.values.items (ap (λ (v : Values). v.0) c.self.view_is) c.self.invariant.0 c.args.number (c.len-end.result - 2)
    (c.len-end.result - 1) c.index-2.result.now c.index.result.now next len
    c.index-2.ensures c.index.ensures less more
