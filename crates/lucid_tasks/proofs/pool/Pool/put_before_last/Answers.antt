use Rattle.lucid_tasks.proofs.Common.{◌<◌, length, ap, sym, subst, arith, rules, vec_capacity, Values}
use Rattle.lucid_tasks.proofs.EndLemmas.{before_end_of}
use Rattle.lucid_tasks.proofs.NumberedLemmas.{put_room, put_sets, put_keeps}
use Rattle.lucid_tasks.proofs.pool.Pool.put_before_last.Goals as goal

pub push_reserved-requires-2 : goal.push_reserved-requires-2
push_reserved-requires-2 c =
    let room = put_room c.args.self.now.0 c.self.inside.values.items (ap (λ (v : Values). v.0) c.self.view_is) c.args.number c.args.at c.self.invariant.0
    c.args.value (vec_capacity c.self.inside.values)
    c.requires.gap c.self.invariant.1 (subst (λ (v : Values). c.args.number < v.1) (sym c.self.view_is) c.requires.room) in
    search rules

pub invariant_of-self : goal.invariant_of-self
invariant_of-self c =
    let items = c.self.inside.values.items in
    let same = ap (λ (v : Values). v.0) c.self.view_is in
    let len = ap length same in
    let after = before_end_of c.take_last-last.new.self.items items c.push_reserved.new.self.items c.push_reserved-2.new.self.items c.take_last-last.result
    (c.args.number, c.args.value) c.args.at
    c.take_last-last.ensures.items (omega (arith, c.requires.last, len)) c.push_reserved.ensures.items c.push_reserved-2.ensures.items in
    put_keeps c.args.self.now.0 items same c.args.number c.args.at c.self.invariant.0 c.args.value (vec_capacity c.self.inside.values)
    (vec_capacity c.push_reserved-2.new.self) c.push_reserved-2.new.self.items
    c.requires.gap c.self.invariant.1 (subst (λ (v : Values). c.args.number < v.1) (sym c.self.view_is) c.requires.room)
    (omega (arith, c.take_last-last.ensures.capacity, c.push_reserved.ensures.capacity, c.push_reserved-2.ensures.capacity)) after

pub returns-clause-values : goal.returns-clause-values
returns-clause-values c =
    let items = c.self.inside.values.items in
    let same = ap (λ (v : Values). v.0) c.self.view_is in
    let len = ap length same in
    let after = before_end_of c.take_last-last.new.self.items items c.push_reserved.new.self.items c.push_reserved-2.new.self.items c.take_last-last.result
    (c.args.number, c.args.value) c.args.at
    c.take_last-last.ensures.items (omega (arith, c.requires.last, len)) c.push_reserved.ensures.items c.push_reserved-2.ensures.items in
    put_sets c.args.self.now.0 items same c.args.number c.args.at c.self.invariant.0 c.args.value c.push_reserved-2.new.self.items c.requires.gap after
