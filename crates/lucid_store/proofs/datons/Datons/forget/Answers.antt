use Rattle.lucid_store.proofs.Common.{None, refl, sym, ap, subst, is_some, Sets}
use Rattle.lucid_store.proofs.Besides.{absent-sets, none_placed, some_placed, same_place}
use Rattle.lucid_store.proofs.datons.Datons.forget.Goals as goal

pub returns-in_default-clause-was : goal.returns-in_default-clause-was
returns-in_default-clause-was c = sym (ap is_some (none_placed c.args.key c.args.self.now (sym c.in_default.ensures.place)))

pub returns-in_default-clause-entries : goal.returns-in_default-clause-entries
returns-in_default-clause-entries c = absent-sets c.args.key c.args.self.now None refl (none_placed c.args.key c.args.self.now (sym c.in_default.ensures.place))

pub returns-clause-was : goal.returns-clause-was
returns-clause-was c = sym (some_placed c.args.key c.args.self.now _ (sym c.in-Some.ensures.place))

pub returns-clause-entries : goal.returns-clause-entries
returns-clause-entries c =
    let same = same_place c.remove.result c.args.key c.args.self.now _ c.remove.ensures.place (sym c.in-Some.ensures.place) in
    subst (λ k. Sets c.args.self.now c.remove.new.self k None) same c.remove.ensures.entries
