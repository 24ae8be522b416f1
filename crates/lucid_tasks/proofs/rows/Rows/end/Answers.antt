use Rattle.lucid_tasks.proofs.Common.{◌≡◌, ℕ, ◌<◌, None, false, sym, subst, refl, rules, value_at, IsRow, got_of, part_number}
use Rattle.lucid_tasks.proofs.LaidLemmas.{row_in_range, at_it, live_it, value_empty, ends, ended_laid}
use Rattle.lucid_tasks.proofs.rows.Rows.end.Goals as goal

pub index_mut-requires : goal.index_mut-requires
index_mut-requires c =
    let below = row_in_range c.self.inside.pool.0 c.self.inside.rows.items c.args.slot (subst (λ v. IsRow v c.args.slot) (sym c.self.view_is) c.requires.row) in
    search rules

pub invariant_of-self : goal.invariant_of-self
invariant_of-self c =
    let some = subst (λ v. IsRow v c.args.slot) (sym c.self.view_is) c.requires.row in
    let row = c.index_mut.result.now in
    let empty : (k : ℕ) → k < 3 → value_at c.self.inside.pool.0 (part_number c.args.slot k) ≡ None =
    λ k h. value_empty c.self.inside.rows.items c.self.inside.pool c.self.invariant c.args.slot k some h
    (subst (λ v. got_of v (record { slot = c.args.slot; index = k }) ≡ None) (sym c.self.view_is) (c.requires.empty k h)) in
    ended_laid c.self.inside.rows.items c.trim.new.rows.items c.self.inside.pool c.self.invariant c.args.slot row (record row { live = false })
    (at_it c.self.inside.rows.items c.self.inside.pool c.args.slot row some c.index_mut.ensures.value)
    (live_it c.self.inside.rows.items c.self.inside.pool c.args.slot row some c.index_mut.ensures.value)
    refl refl empty c.trim.ensures

pub returns : goal.returns
returns c =
    let some = subst (λ v. IsRow v c.args.slot) (sym c.self.view_is) c.requires.row in
    let row = c.index_mut.result.now in
    let empty : (k : ℕ) → k < 3 → value_at c.self.inside.pool.0 (part_number c.args.slot k) ≡ None =
    λ k h. value_empty c.self.inside.rows.items c.self.inside.pool c.self.invariant c.args.slot k some h
    (subst (λ v. got_of v (record { slot = c.args.slot; index = k }) ≡ None) (sym c.self.view_is) (c.requires.empty k h)) in
    rw (← c.self.view_is) (ends c.self.inside.rows.items c.trim.new.rows.items c.self.inside.pool c.self.invariant c.args.slot row (record row { live = false })
    (at_it c.self.inside.rows.items c.self.inside.pool c.args.slot row some c.index_mut.ensures.value)
    (live_it c.self.inside.rows.items c.self.inside.pool c.args.slot row some c.index_mut.ensures.value)
    refl refl empty c.trim.ensures)
