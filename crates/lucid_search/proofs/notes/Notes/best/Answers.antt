use Rattle.lucid_search.proofs.Common.{◌≡◌, ◌<◌, sym, subst, rules, Rises, IsAt, IsGapFor}
use Rattle.lucid_search.proofs.NumberedLemmas.{best_at, best_before, none_low}
use Rattle.lucid_search.proofs.notes.Notes.best.Goals as goal

pub returns-in-Ok-clause-best : goal.returns-in-Ok-clause-best
returns-in-Ok-clause-best c = rw (← c.self.view_is)
    (best_at c.self.inside.pairs.items c.self.invariant c.args.key c.in-Ok.at c.index.result.now
    (subst (λ v. IsAt v c.args.key c.in-Ok.at) (sym c.self.view_is) c.in-Ok.ensures.found) c.index.ensures)

pub returns-in-Err-eq0-clause-none : goal.returns-in-Err-eq0-clause-none
returns-in-Err-eq0-clause-none c =
    let first : c.in-Err-eq0.field-0 ≡ 0 = search rules in
    none_low c.args.self.now (subst Rises c.self.view_is c.self.invariant) c.args.key c.in-Err-eq0.field-0 c.in-Err-eq0.ensures.absent first

pub returns-in-Err-clause-best : goal.returns-in-Err-clause-best
returns-in-Err-clause-best c =
    let some : 0 < c.in-Err.after = search rules in
    rw (← c.self.view_is) (best_before c.self.inside.pairs.items c.self.invariant c.args.key c.in-Err.after c.index-in-Err.result.now
    (subst (λ v. IsGapFor v c.args.key c.in-Err.after) (sym c.self.view_is) c.in-Err.ensures.absent) some c.index-in-Err.ensures)
