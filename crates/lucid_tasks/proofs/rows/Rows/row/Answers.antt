use Rattle.lucid_tasks.proofs.Common.{sym, subst, rules, IsRow}
use Rattle.lucid_tasks.proofs.LaidLemmas.{row_in_range, slot_is_word, shows}
use Rattle.lucid_tasks.proofs.rows.Rows.row.Goals as goal

pub index-requires : goal.index-requires
index-requires c =
    let below = row_in_range c.self.inside.pool.0 c.self.inside.rows.items c.args.slot (subst (λ v. IsRow v c.args.slot) (sym c.self.view_is) c.requires) in
    search rules

pub returns-clause-slot : goal.returns-clause-slot
returns-clause-slot c = slot_is_word c.self.inside.rows.items c.self.inside.pool c.args.slot c.self.invariant
    (subst (λ v. IsRow v c.args.slot) (sym c.self.view_is) c.requires)

pub returns-clause-row : goal.returns-clause-row
returns-clause-row c = rw (← c.self.view_is) (shows c.self.inside.rows.items c.self.inside.pool c.args.slot c.index.result.now
    (subst (λ v. IsRow v c.args.slot) (sym c.self.view_is) c.requires) c.index.ensures c.self.invariant)
