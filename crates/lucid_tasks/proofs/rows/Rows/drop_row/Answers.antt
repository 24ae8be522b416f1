use Rattle.lucid_tasks.proofs.Common.{sym, subst, ◌∙◌, arith, IsRow, part_number}
use Rattle.lucid_tasks.proofs.LaidLemmas.{got_at}
use Rattle.lucid_tasks.proofs.NumberedLemmas.{none_past}
use Rattle.lucid_tasks.proofs.rows.Rows.drop_row.Goals as goal

pub end-requires-clause-empty : goal.end-requires-clause-empty
end-requires-clause-empty c = λ index h.
    let some = subst (λ v. IsRow v c.args.slot) (sym c.self.view_is) c.requires in
    let past = none_past c.self.inside.pool.0 c.number.result (c.ends_below.ensures.0 c.if-ends_below.true) (part_number c.args.slot index)
    (omega (arith, c.number.ensures, h)) in
    rw (← c.self.view_is) (got_at c.self.inside.rows.items c.self.inside.pool c.self.invariant c.args.slot index some h) ∙ past
