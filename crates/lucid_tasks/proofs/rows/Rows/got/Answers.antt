use Rattle.lucid_tasks.proofs.Common.{sym, subst, ap, ◌∙◌, IsRow, value_at}
use Rattle.lucid_tasks.proofs.LaidLemmas.{got_at}
use Rattle.lucid_tasks.proofs.rows.Rows.got.Goals as goal

pub returns : goal.returns
returns c = c.get.ensures ∙ ap (value_at c.self.inside.pool.0) c.number.ensures
    ∙ sym
    (rw (← c.self.view_is) (got_at c.self.inside.rows.items c.self.inside.pool c.self.invariant c.args.slot c.args.index
    (subst (λ v. IsRow v c.args.slot) (sym c.self.view_is) c.requires.row) c.requires.index))
