use Rattle.lucid_tasks.proofs.Common.{sym, subst, refl, rules, IsRow, with_cursor}
use Rattle.lucid_tasks.proofs.LaidLemmas.{row_in_range, at_it, live_it, words_changes, words_laid}
use Rattle.lucid_tasks.proofs.rows.Rows.set_cursor.Goals as goal

pub index_mut-requires : goal.index_mut-requires
index_mut-requires c =
    let below = row_in_range c.self.inside.pool.0 c.self.inside.rows.items c.args.slot (subst (λ v. IsRow v c.args.slot) (sym c.self.view_is) c.requires) in
    search rules

pub invariant_of-self : goal.invariant_of-self
invariant_of-self c =
    let some = subst (λ v. IsRow v c.args.slot) (sym c.self.view_is) c.requires in
    let row = c.index_mut.result.now in
    words_laid c.self.inside.rows.items c.self.inside.pool c.self.invariant c.args.slot row (record row { cursor = c.args.cursor })
    (at_it c.self.inside.rows.items c.self.inside.pool c.args.slot row some c.index_mut.ensures.value)
    (live_it c.self.inside.rows.items c.self.inside.pool c.args.slot row some c.index_mut.ensures.value) refl refl

pub returns : goal.returns
returns c =
    let some = subst (λ v. IsRow v c.args.slot) (sym c.self.view_is) c.requires in
    let row = c.index_mut.result.now in
    rw (← c.self.view_is) (words_changes c.self.inside.rows.items c.self.inside.pool c.self.invariant c.args.slot row (record row { cursor = c.args.cursor })
    (at_it c.self.inside.rows.items c.self.inside.pool c.args.slot row some c.index_mut.ensures.value)
    (live_it c.self.inside.rows.items c.self.inside.pool c.args.slot row some c.index_mut.ensures.value) refl refl
    (with_cursor c.args.cursor) refl)
