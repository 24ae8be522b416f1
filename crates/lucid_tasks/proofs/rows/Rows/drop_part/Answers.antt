use Rattle.lucid_tasks.proofs.Common.{None, sym, subst, value_at, SetsOne, IsRow}
use Rattle.lucid_tasks.proofs.LaidLemmas.{the_live, taken_changes, taken_laid}
use Rattle.lucid_tasks.proofs.rows.Rows.drop_part.Goals as goal

pub invariant_of-self : goal.invariant_of-self
invariant_of-self c =
    let r = the_live c.self.inside.pool.0 c.self.inside.rows.items c.args.slot (subst (λ v. IsRow v c.args.slot) (sym c.self.view_is) c.requires.row) in
    taken_laid c.self.inside.rows.items c.self.inside.pool c.self.invariant c.args.slot c.args.index r.0 r.1.0 r.1.1
    c.requires.index c.discard.new.self (subst (λ n. SetsOne (value_at c.self.inside.pool.0) (value_at c.discard.new.self.0) n None) c.number.ensures
    c.discard.ensures.values) c.discard.ensures.room

pub returns : goal.returns
returns c =
    let r = the_live c.self.inside.pool.0 c.self.inside.rows.items c.args.slot (subst (λ v. IsRow v c.args.slot) (sym c.self.view_is) c.requires.row) in
    rw (← c.self.view_is) (taken_changes c.self.inside.rows.items c.self.inside.pool c.self.invariant c.args.slot c.args.index r.0 r.1.0 r.1.1
    c.requires.index c.discard.new.self (subst (λ n. SetsOne (value_at c.self.inside.pool.0) (value_at c.discard.new.self.0) n None) c.number.ensures
    c.discard.ensures.values) c.discard.ensures.room)
