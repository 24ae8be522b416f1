use Rattle.lucid_search.proofs.Common.{◌≡◌, ℕ, set, sym, subst, ap, ◌∙◌, number_in, IsAt, IsGapFor}
use Rattle.lucid_search.proofs.NumberedLemmas.{set_sets, insert_sets}
use Rattle.lucid_search.proofs.notes.Notes.set.Goals as goal

pub returns-in-Ok-clause-ok : goal.returns-in-Ok-clause-ok
returns-in-Ok-clause-ok c =
    let at = subst (λ v. IsAt v c.args.key c.in-Ok.at) (sym c.self.view_is) c.in-Ok.ensures.found in
    let first : c.index_mut.result.now.0 ≡ c.args.key = ap (λ (y : ℕ × ℕ). y.0) c.index_mut.ensures.value ∙ at.has c.index_mut.result.now in
    rw (← c.self.view_is) (λ q. ap (λ (k : ℕ). number_in (set c.self.inside.pairs.items c.in-Ok.at (k, c.args.number)) q) first
    ∙ set_sets c.self.inside.pairs.items c.self.invariant c.args.key c.in-Ok.at c.args.number at q)

pub returns-in_ok-insert-in-Err-clause-ok : goal.returns-in_ok-insert-in-Err-clause-ok
returns-in_ok-insert-in-Err-clause-ok c =
    let gap = subst (λ v. IsGapFor v c.args.key c.in-Err.at) (sym c.self.view_is) c.in-Err.ensures.absent in
    rw (c.in_ok-insert-in-Err.ensures.items, ← c.self.view_is) (insert_sets c.self.inside.pairs.items c.self.invariant c.args.key c.in-Err.at c.args.number gap)
