use Rattle.lucid_tasks.proofs.Common.{◌≡◌, ◌+◌, None, sym, subst, refl, rules, IsRow, got_of}
use Rattle.lucid_tasks.proofs.LaidLemmas.{row_in_range, at_it, live_it, value_empty, asked_changes, asked_laid, named_next}
use Rattle.lucid_tasks.proofs.rows.Rows.mark_asked.Goals as goal

pub index_mut-requires : goal.index_mut-requires
index_mut-requires c =
    let below = row_in_range c.self.inside.pool.0 c.self.inside.rows.items c.args.part.slot
    (subst (λ v. IsRow v c.args.part.slot) (sym c.self.view_is) c.requires.row) in
    search rules

pub invariant_of-self : goal.invariant_of-self
invariant_of-self c =
    let some = subst (λ v. IsRow v c.args.part.slot) (sym c.self.view_is) c.requires.row in
    let row = c.index_mut.result.now in
    let empty = value_empty c.self.inside.rows.items c.self.inside.pool c.self.invariant c.args.part.slot c.args.part.index some c.requires.index
    (subst (λ v. got_of v c.args.part ≡ None) (sym c.self.view_is) c.requires.empty) in
    asked_laid c.self.inside.rows.items c.self.inside.pool c.self.invariant c.args.part.slot c.args.part.index row
    (at_it c.self.inside.rows.items c.self.inside.pool c.args.part.slot row some c.index_mut.ensures.value)
    (live_it c.self.inside.rows.items c.self.inside.pool c.args.part.slot row some c.index_mut.ensures.value)
    c.requires.index c.args.child (c.args.child + 1) (named_next (c.args.child + 1) c.args.child refl) empty

pub returns : goal.returns
returns c =
    let some = subst (λ v. IsRow v c.args.part.slot) (sym c.self.view_is) c.requires.row in
    let row = c.index_mut.result.now in
    let empty = value_empty c.self.inside.rows.items c.self.inside.pool c.self.invariant c.args.part.slot c.args.part.index some c.requires.index
    (subst (λ v. got_of v c.args.part ≡ None) (sym c.self.view_is) c.requires.empty) in
    rw (← c.self.view_is) (asked_changes c.self.inside.rows.items c.self.inside.pool c.self.invariant c.args.part.slot c.args.part.index row
    (at_it c.self.inside.rows.items c.self.inside.pool c.args.part.slot row some c.index_mut.ensures.value)
    (live_it c.self.inside.rows.items c.self.inside.pool c.args.part.slot row some c.index_mut.ensures.value)
    c.requires.index c.args.child (c.args.child + 1) (named_next (c.args.child + 1) c.args.child refl) empty)
