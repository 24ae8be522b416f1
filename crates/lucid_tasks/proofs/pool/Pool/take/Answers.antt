use Rattle.lucid_tasks.proofs.Common.{◌-◌, length, ap, arith, Values}
use Rattle.lucid_tasks.proofs.EndLemmas.{last_of}
use Rattle.lucid_tasks.proofs.NumberedLemmas.{last_is_at, found_value, found_removed}
use Rattle.lucid_tasks.proofs.pool.Pool.take.Goals as goal

pub returns-in-Some-clause-value : goal.returns-in-Some-clause-value
returns-in-Some-clause-value c =
    let items = c.self.inside.values.items in
    let same = ap (λ (v : Values). v.0) c.self.view_is in
    let len = ap length same in
    let at = last_is_at c.args.self.now.0 items c.deref.result.now c.args.number c.in-Some.last.now c.deref.ensures.value same c.in-Some.ensures.value
    c.if-last-number.true in
    let left = last_of c.take_last.new.self.items items c.take_last.result (length c.args.self.now.0 - 1) c.take_last.ensures.items
    (omega (arith, at.in_range, len)) in
    found_value c.args.self.now.0 items same c.args.number (length c.args.self.now.0 - 1) c.self.invariant.0 c.take_last.result at left.1

pub returns-in-Some-clause-values : goal.returns-in-Some-clause-values
returns-in-Some-clause-values c =
    let items = c.self.inside.values.items in
    let same = ap (λ (v : Values). v.0) c.self.view_is in
    let len = ap length same in
    let at = last_is_at c.args.self.now.0 items c.deref.result.now c.args.number c.in-Some.last.now c.deref.ensures.value same c.in-Some.ensures.value
    c.if-last-number.true in
    let left = last_of c.take_last.new.self.items items c.take_last.result (length c.args.self.now.0 - 1) c.take_last.ensures.items
    (omega (arith, at.in_range, len)) in
    found_removed c.args.self.now.0 items same c.args.number (length c.args.self.now.0 - 1) c.self.invariant.0 c.take_last.result c.take_last.new.self.items at
    left.0
