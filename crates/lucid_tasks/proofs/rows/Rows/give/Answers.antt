use Rattle.lucid_tasks.proofs.Common.{◌≡◌, ◌<◌, None, Some, sym, subst, ap, rules, ◌∙◌, value_at, SetsOne, IsRow, got_of}
use Rattle.lucid_tasks.proofs.LaidLemmas.{row_in_range, at_it, live_it, value_empty, part_in_room, given_changes, given_laid}
use Rattle.lucid_tasks.proofs.rows.Rows.give.Goals as goal

pub put-requires-clause-room : goal.put-requires-clause-room
put-requires-clause-room c = subst (λ n. n < c.self.inside.pool.1) (sym c.number.ensures)
    (part_in_room c.self.inside.rows.items c.self.inside.pool c.args.part.slot c.args.part.index c.self.invariant
    (subst (λ v. IsRow v c.args.part.slot) (sym c.self.view_is) c.requires.row) c.requires.index)

pub put-requires-clause-absent : goal.put-requires-clause-absent
put-requires-clause-absent c = ap (value_at c.self.inside.pool.0) c.number.ensures
    ∙ value_empty c.self.inside.rows.items c.self.inside.pool c.self.invariant c.args.part.slot c.args.part.index
    (subst (λ v. IsRow v c.args.part.slot) (sym c.self.view_is) c.requires.row) c.requires.index
    (subst (λ v. got_of v c.args.part ≡ None) (sym c.self.view_is) c.requires.empty)

pub index_mut-requires : goal.index_mut-requires
index_mut-requires c =
    let below = row_in_range c.self.inside.pool.0 c.self.inside.rows.items c.args.part.slot
    (subst (λ v. IsRow v c.args.part.slot) (sym c.self.view_is) c.requires.row) in
    search rules

pub invariant_of-self : goal.invariant_of-self
invariant_of-self c =
    let some = subst (λ v. IsRow v c.args.part.slot) (sym c.self.view_is) c.requires.row in
    let row = c.index_mut.result.now in
    given_laid c.self.inside.rows.items c.self.inside.pool c.self.invariant c.args.part.slot c.args.part.index row
    (at_it c.self.inside.rows.items c.self.inside.pool c.args.part.slot row some c.index_mut.ensures.value)
    (live_it c.self.inside.rows.items c.self.inside.pool c.args.part.slot row some c.index_mut.ensures.value)
    c.requires.index c.put.new.self c.args.value (subst (λ n. SetsOne (value_at c.self.inside.pool.0) (value_at c.put.new.self.0) n (Some c.args.value))
    c.number.ensures c.put.ensures.values) c.put.ensures.room

pub returns : goal.returns
returns c =
    let some = subst (λ v. IsRow v c.args.part.slot) (sym c.self.view_is) c.requires.row in
    let row = c.index_mut.result.now in
    rw (← c.self.view_is) (given_changes c.self.inside.rows.items c.self.inside.pool c.self.invariant c.args.part.slot c.args.part.index row
    (at_it c.self.inside.rows.items c.self.inside.pool c.args.part.slot row some c.index_mut.ensures.value)
    (live_it c.self.inside.rows.items c.self.inside.pool c.args.part.slot row some c.index_mut.ensures.value)
    c.requires.index c.put.new.self c.args.value (subst (λ n. SetsOne (value_at c.self.inside.pool.0) (value_at c.put.new.self.0) n (Some c.args.value))
    c.number.ensures c.put.ensures.values) c.put.ensures.room)
