use Rattle.lucid_tasks.proofs.Common.{None, sym, subst, ap, ◌∙◌, value_at, SetsOne, IsRow}
use Rattle.lucid_tasks.proofs.LaidLemmas.{the_live, got_at, taken_changes, taken_laid}
use Rattle.lucid_tasks.proofs.rows.Rows.take.Goals as goal

pub invariant_of-self : goal.invariant_of-self
invariant_of-self c =
    let r = the_live c.self.inside.pool.0 c.self.inside.rows.items c.args.part.slot
    (subst (λ v. IsRow v c.args.part.slot) (sym c.self.view_is) c.requires.row) in
    taken_laid c.self.inside.rows.items c.self.inside.pool c.self.invariant c.args.part.slot c.args.part.index r.0 r.1.0 r.1.1
    c.requires.index c.take.new.self (subst (λ n. SetsOne (value_at c.self.inside.pool.0) (value_at c.take.new.self.0) n None) c.number.ensures
    c.take.ensures.values) c.take.ensures.room

pub returns-clause-value : goal.returns-clause-value
returns-clause-value c = c.take.ensures.value ∙ ap (value_at c.self.inside.pool.0) c.number.ensures
    ∙ sym
    (rw (← c.self.view_is) (got_at c.self.inside.rows.items c.self.inside.pool c.self.invariant c.args.part.slot c.args.part.index
    (subst (λ v. IsRow v c.args.part.slot) (sym c.self.view_is) c.requires.row) c.requires.index))

pub returns-clause-rows : goal.returns-clause-rows
returns-clause-rows c =
    let r = the_live c.self.inside.pool.0 c.self.inside.rows.items c.args.part.slot
    (subst (λ v. IsRow v c.args.part.slot) (sym c.self.view_is) c.requires.row) in
    rw (← c.self.view_is) (taken_changes c.self.inside.rows.items c.self.inside.pool c.self.invariant c.args.part.slot c.args.part.index r.0 r.1.0 r.1.1
    c.requires.index c.take.new.self (subst (λ n. SetsOne (value_at c.self.inside.pool.0) (value_at c.take.new.self.0) n None) c.number.ensures
    c.take.ensures.values) c.take.ensures.room)
