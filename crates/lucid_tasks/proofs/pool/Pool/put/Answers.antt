use Rattle.lucid_tasks.proofs.Common.{◌≡◌, ◌<◌, length, ap, sym, subst, arith, rules, vec_capacity, Values}
use Rattle.lucid_tasks.proofs.EndLemmas.{end_of}
use Rattle.lucid_tasks.proofs.NumberedLemmas.{put_room, put_sets, put_keeps}
use Rattle.lucid_tasks.proofs.pool.Pool.put.Goals as goal

pub push_reserved-requires : goal.push_reserved-requires
push_reserved-requires c =
    let room = put_room c.args.self.now.0 c.self.inside.values.items (ap (λ (v : Values). v.0) c.self.view_is) c.args.number (length c.args.self.now.0)
    c.self.invariant.0 c.args.value (vec_capacity c.self.inside.values)
    (c.ends_below.ensures.0 c.if-ends_below.true) c.self.invariant.1 (subst (λ (v : Values). c.args.number < v.1) (sym c.self.view_is) c.requires.room) in
    search rules

pub invariant_of-self : goal.invariant_of-self
invariant_of-self c =
    let end : length c.args.self.now.0 ≡ length c.self.inside.values.items = sym (ap (λ (v : Values). length v.0) c.self.view_is) in
    put_keeps c.args.self.now.0 c.self.inside.values.items (ap (λ (v : Values). v.0) c.self.view_is) c.args.number (length c.args.self.now.0) c.self.invariant.0
    c.args.value (vec_capacity c.self.inside.values)
    (vec_capacity c.push_reserved.new.self) c.push_reserved.new.self.items (c.ends_below.ensures.0 c.if-ends_below.true) c.self.invariant.1
    (subst (λ (v : Values). c.args.number < v.1) (sym c.self.view_is) c.requires.room) (omega (arith, c.push_reserved.ensures.capacity))
    (end_of c.self.inside.values.items c.push_reserved.new.self.items (c.args.number, c.args.value) (length c.args.self.now.0) end
    c.push_reserved.ensures.items)

pub returns-then-ends_below-clause-values : goal.returns-then-ends_below-clause-values
returns-then-ends_below-clause-values c =
    let end : length c.args.self.now.0 ≡ length c.self.inside.values.items = sym (ap (λ (v : Values). length v.0) c.self.view_is) in
    put_sets c.args.self.now.0 c.self.inside.values.items (ap (λ (v : Values). v.0) c.self.view_is) c.args.number (length c.args.self.now.0) c.self.invariant.0
    c.args.value c.push_reserved.new.self.items
    (c.ends_below.ensures.0 c.if-ends_below.true) (end_of c.self.inside.values.items c.push_reserved.new.self.items (c.args.number, c.args.value)
    (length c.args.self.now.0) end c.push_reserved.ensures.items)
