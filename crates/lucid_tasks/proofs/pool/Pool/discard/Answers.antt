use Rattle.lucid_tasks.proofs.Common.{◌-◌, length, ap, arith, vec_capacity, Values, le_refl}
use Rattle.lucid_tasks.proofs.EndLemmas.{last_of}
use Rattle.lucid_tasks.proofs.NumberedLemmas.{last_is_at, found_removed, found_keeps, unset, none_past}
use Rattle.lucid_tasks.proofs.pool.Pool.discard.Goals as goal

pub returns-then-ends_below-clause-values : goal.returns-then-ends_below-clause-values
returns-then-ends_below-clause-values c =
    unset c.args.self.now.0 c.args.number (none_past c.args.self.now.0 c.args.number (c.ends_below.ensures.0 c.if-ends_below.true) c.args.number
    (le_refl c.args.number))

pub returns-in-Some-clause-values : goal.returns-in-Some-clause-values
returns-in-Some-clause-values c =
    let items = c.self.inside.values.items in
    let same = ap (λ (v : Values). v.0) c.self.view_is in
    let len = ap length same in
    let at = last_is_at c.args.self.now.0 items c.deref.result.now c.args.number c.in-Some.last.now c.deref.ensures.value same c.in-Some.ensures.value
    c.if-last-number.true in
    let left = last_of c.take_last.new.self.items items c.take_last.result (length c.args.self.now.0 - 1) c.take_last.ensures.items
    (omega (arith, at.in_range, len)) in
    found_removed c.args.self.now.0 items same c.args.number (length c.args.self.now.0 - 1) c.self.invariant.0 c.take_last.result c.take_last.new.self.items at
    left.0

pub invariant_of-self : goal.invariant_of-self
invariant_of-self c =
    let items = c.self.inside.values.items in
    let same = ap (λ (v : Values). v.0) c.self.view_is in
    let len = ap length same in
    let at = last_is_at c.args.self.now.0 items c.deref.result.now c.args.number c.in-Some.last.now c.deref.ensures.value same c.in-Some.ensures.value
    c.if-last-number.true in
    let left = last_of c.take_last.new.self.items items c.take_last.result (length c.args.self.now.0 - 1) c.take_last.ensures.items
    (omega (arith, at.in_range, len)) in
    found_keeps c.args.self.now.0 items same c.args.number (length c.args.self.now.0 - 1) c.self.invariant.0 c.take_last.result
    (vec_capacity c.self.inside.values) (vec_capacity c.take_last.new.self)
    c.take_last.new.self.items at c.self.invariant.1 c.take_last.ensures.capacity left.0
