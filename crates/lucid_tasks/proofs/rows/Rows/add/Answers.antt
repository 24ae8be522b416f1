use Rattle.lucid_tasks.proofs.Common.{◌≡◌, ℕ, ◌<◌, ◌+◌, ◌*◌, ◌^◌, ◌≤◌, List, [], ◌∷◌, ◌++◌, length, Some, ap, sym, subst, rules, ◌∙◌, Row, IsRow, SetsOnly, fresh, laid_from}
use Rattle.lucid_tasks.proofs.LaidLemmas.{row_in_range, parent_fits, roomier, added, added_laid}
use Rattle.lucid_tasks.proofs.rows.Rows.add.Goals as goal

pub invariant_of-self : goal.invariant_of-self
invariant_of-self c = roomier c.self.inside.rows.items c.self.inside.pool c.reserve.new.self c.self.invariant c.reserve.ensures.values c.reserve.ensures.room

pub new_row-requires : goal.new_row-requires
new_row-requires c = parent_fits c.self.inside.rows.items c.self.inside.pool c.args.parent c.self.invariant (rw c.self.view_is c.requires)

pub invariant_of-self-in_err-reserve-2 : goal.invariant_of-self-in_err-reserve-2
invariant_of-self-in_err-reserve-2 c = rw c.reserve-2.ensures.items
    (roomier c.self.inside.rows.items c.self.inside.pool c.reserve.new.self c.self.invariant c.reserve.ensures.values c.reserve.ensures.room)

pub invariant_of-self-2 : goal.invariant_of-self-2
invariant_of-self-2 c =
    let room : 3 * length c.self.inside.rows.items + 3 ≤ c.reserve.new.self.1 = search rules in
    let small : length c.self.inside.rows.items + 1 < 2 ^ 32 = search rules in
    rw (c.push_reserved.ensures.items, c.reserve-2.ensures.items)
    (added_laid c.self.inside.rows.items c.self.inside.pool c.reserve.new.self c.self.invariant c.reserve.ensures.values c.new_row.result
    c.new_row.ensures.live c.new_row.ensures.asked room small)

pub returns-clause-row : goal.returns-clause-row
returns-clause-row c =
    let len : c.len-slot.result ≡ length c.self.inside.rows.items = search rules in
    subst (λ (xs : List Row). SetsOnly c.args.self.now (laid_from c.reserve.new.self.0 0 xs) c.len-slot.result
    (Some (fresh c.args.task c.args.parent c.args.key)))
    (sym (c.push_reserved.ensures.items ∙ ap (λ (xs : List Row). xs ++ c.new_row.result ∷ []) c.reserve-2.ensures.items))
    (subst (λ (n : ℕ). SetsOnly c.args.self.now (laid_from c.reserve.new.self.0 0 (c.self.inside.rows.items ++ c.new_row.result ∷ [])) n
    (Some (fresh c.args.task c.args.parent c.args.key))) (sym len)
    (subst (λ v. SetsOnly v (laid_from c.reserve.new.self.0 0 (c.self.inside.rows.items ++ c.new_row.result ∷ [])) (length c.self.inside.rows.items)
    (Some (fresh c.args.task c.args.parent c.args.key))) c.self.view_is
    (added c.self.inside.rows.items c.self.inside.pool c.reserve.new.self c.self.invariant c.reserve.ensures.values c.new_row.result c.new_row.ensures.live
    c.new_row.ensures.asked c.args.task c.args.parent c.args.key
    c.new_row.ensures.task c.new_row.ensures.parent c.new_row.ensures.cursor c.new_row.ensures.key)))

pub returns-clause-newest : goal.returns-clause-newest
returns-clause-newest c =
    let len : c.len-slot.result ≡ length c.self.inside.rows.items = search rules in
    λ q some. subst (λ (n : ℕ). q < n) (sym len) (row_in_range c.self.inside.pool.0 c.self.inside.rows.items q
    (subst (λ v. IsRow v q) (sym c.self.view_is) some))
