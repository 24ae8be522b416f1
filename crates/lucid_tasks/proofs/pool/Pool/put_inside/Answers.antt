use Rattle.lucid_tasks.proofs.Common.{◌<◌, cond, vec_len, ap, sym, subst, rules, ◌∙◌, vec_capacity, Values}
use Rattle.std.specs.Prelude.{insert}
use Rattle.lucid_tasks.proofs.NumberedLemmas.{put_room, put_sets, put_keeps}
use Rattle.lucid_tasks.proofs.pool.Pool.put_inside.Goals as goal

pub unreachable-requires : goal.unreachable-requires
unreachable-requires c =
    let room = put_room c.args.self.now.0 c.self.inside.values.items (ap (λ (v : Values). v.0) c.self.view_is) c.args.number c.args.at c.self.invariant.0
    c.args.value (vec_capacity c.self.inside.values) c.requires.gap c.self.invariant.1
    (subst (λ (v : Values). c.args.number < v.1) (sym c.self.view_is) c.requires.room) in
    search rules

pub invariant_of-self : goal.invariant_of-self
invariant_of-self c =
    let below = subst (λ (v : Values). c.args.number < v.1) (sym c.self.view_is) c.requires.room in
    let room = put_room c.args.self.now.0 c.self.inside.values.items (ap (λ (v : Values). v.0) c.self.view_is) c.args.number c.args.at c.self.invariant.0
    c.args.value (vec_capacity c.self.inside.values) c.requires.gap c.self.invariant.1 below in
    let fits : vec_len c.self.inside.values < vec_capacity c.self.inside.values = search rules in
    let items = c.insert.ensures.items ∙ ap (λ b. cond b (insert c.self.inside.values.items c.args.at (c.args.number, c.args.value)) c.self.inside.values.items)
    (c.insert.ensures.succeeds fits) in
    put_keeps c.args.self.now.0 c.self.inside.values.items (ap (λ (v : Values). v.0) c.self.view_is) c.args.number c.args.at c.self.invariant.0 c.args.value
    (vec_capacity c.self.inside.values) (vec_capacity c.insert.new.self) c.insert.new.self.items c.requires.gap c.self.invariant.1 below
    c.insert.ensures.capacity items

pub returns-clause-values : goal.returns-clause-values
returns-clause-values c =
    let below = subst (λ (v : Values). c.args.number < v.1) (sym c.self.view_is) c.requires.room in
    let room = put_room c.args.self.now.0 c.self.inside.values.items (ap (λ (v : Values). v.0) c.self.view_is) c.args.number c.args.at c.self.invariant.0
    c.args.value (vec_capacity c.self.inside.values) c.requires.gap c.self.invariant.1 below in
    let fits : vec_len c.self.inside.values < vec_capacity c.self.inside.values = search rules in
    let items = c.insert.ensures.items ∙ ap (λ b. cond b (insert c.self.inside.values.items c.args.at (c.args.number, c.args.value)) c.self.inside.values.items)
    (c.insert.ensures.succeeds fits) in
    put_sets c.args.self.now.0 c.self.inside.values.items (ap (λ (v : Values). v.0) c.self.view_is) c.args.number c.args.at c.self.invariant.0 c.args.value
    c.insert.new.self.items c.requires.gap items
