use Rattle.lucid_tasks.proofs.Common.{length, ap, arith, vec_capacity, Values}
use Rattle.lucid_tasks.proofs.EndLemmas.{before_last_of}
use Rattle.lucid_tasks.proofs.NumberedLemmas.{found_value, found_removed, found_keeps}
use Rattle.lucid_tasks.proofs.pool.Pool.take_before_last.Goals as goal

pub invariant_of-self : goal.invariant_of-self
invariant_of-self c =
    let items = c.self.inside.values.items in
    let same = ap (λ (v : Values). v.0) c.self.view_is in
    let len = ap length same in
    let left = before_last_of c.take_last-pair.new.self.items c.take_last-last.new.self.items items c.push_reserved.new.self.items c.take_last-pair.result
    c.take_last-last.result c.args.at c.take_last-last.ensures.items c.take_last-pair.ensures.items c.push_reserved.ensures.items
    (omega (arith, c.requires.last, len)) in
    found_keeps c.args.self.now.0 items same c.args.number c.args.at c.self.invariant.0 c.take_last-pair.result (vec_capacity c.self.inside.values)
    (vec_capacity c.push_reserved.new.self) c.push_reserved.new.self.items c.requires.at c.self.invariant.1
    (omega (arith, c.take_last-last.ensures.capacity, c.take_last-pair.ensures.capacity, c.push_reserved.ensures.capacity)) left.0

pub returns-clause-value : goal.returns-clause-value
returns-clause-value c =
    let items = c.self.inside.values.items in
    let same = ap (λ (v : Values). v.0) c.self.view_is in
    let len = ap length same in
    let left = before_last_of c.take_last-pair.new.self.items c.take_last-last.new.self.items items c.push_reserved.new.self.items c.take_last-pair.result
    c.take_last-last.result c.args.at c.take_last-last.ensures.items c.take_last-pair.ensures.items c.push_reserved.ensures.items
    (omega (arith, c.requires.last, len)) in
    found_value c.args.self.now.0 items same c.args.number c.args.at c.self.invariant.0 c.take_last-pair.result c.requires.at left.1

pub returns-clause-values : goal.returns-clause-values
returns-clause-values c =
    let items = c.self.inside.values.items in
    let same = ap (λ (v : Values). v.0) c.self.view_is in
    let len = ap length same in
    let left = before_last_of c.take_last-pair.new.self.items c.take_last-last.new.self.items items c.push_reserved.new.self.items c.take_last-pair.result
    c.take_last-last.result c.args.at c.take_last-last.ensures.items c.take_last-pair.ensures.items c.push_reserved.ensures.items
    (omega (arith, c.requires.last, len)) in
    found_removed c.args.self.now.0 items same c.args.number c.args.at c.self.invariant.0 c.take_last-pair.result c.push_reserved.new.self.items c.requires.at
    left.0
