use Rattle.lucid_store.proofs.Common.{◌≡◌, ◌+◌, ◌≤◌, ◌<◌, length, slice_get, Some, IfSome, refl, ap, sym, subst, ◌∙◌, arith, position, is_some, AllWithin, swap_remove, beside, ages_of, same_key, if◌then◌else◌}
use Rattle.lucid_store.proofs.AgeLemmas.{moved-last, moved-other, length-moved}
use Rattle.lucid_store.proofs.Besides.{keys-beside, length-beside, ages-beside, place-removed, remove-keys, remove-sets, later_stays, is_some_within}
use Rattle.lucid_store.proofs.datons.Datons.remove.Goals as goal

pub unwrap-requires : goal.unwrap-requires
unwrap-requires c =
    let within : c.args.index < length c.self.inside.values.entries =
    subst (λ n. c.args.index < n) (length-beside c.self.inside.values.entries c.self.inside.ages) (rw c.self.view_is c.requires) in
    rw c.swap_remove_index.ensures.entry (is_some_within c.self.inside.values.entries c.args.index within)

pub swap_remove-requires : goal.swap_remove-requires
swap_remove-requires c =
    let within : c.args.index < length c.self.inside.values.entries =
    subst (λ n. c.args.index < n) (length-beside c.self.inside.values.entries c.self.inside.ages) (rw c.self.view_is c.requires) in
    let same = c.self.invariant.0 in
    omega (arith, within, same)

pub returns-clause-place : goal.returns-clause-place
returns-clause-place c =
    let at : slice_get c.self.inside.values.entries c.args.index ≡ Some (c.unwrap.result.0, c.unwrap.result.1) = sym c.swap_remove_index.ensures.entry
    ∙ c.unwrap.ensures in
    rw (← c.self.view_is) (ap (position (same_key c.unwrap.result.0)) (keys-beside c.self.inside.values.entries c.self.inside.ages)
    ∙ place-removed c.self.inside.values.entries c.self.inside.ages c.args.index c.unwrap.result.0 c.unwrap.result.1 c.self.invariant.1 at)

pub returns-clause-entries : goal.returns-clause-entries
returns-clause-entries c =
    let at : slice_get c.self.inside.values.entries c.args.index ≡ Some (c.unwrap.result.0, c.unwrap.result.1) = sym c.swap_remove_index.ensures.entry
    ∙ c.unwrap.ensures in
    let left : c.swap_remove_index.new.self.entries ≡ swap_remove c.self.inside.values.entries c.args.index (c.unwrap.result.0, c.unwrap.result.1) =
    subst (λ r. IfSome r (λ p. c.swap_remove_index.new.self.entries ≡ swap_remove c.self.inside.values.entries c.args.index p)) c.unwrap.ensures
    c.swap_remove_index.ensures.entries in
    rw (← c.self.view_is) (remove-sets c.self.inside.values.entries c.self.inside.ages c.args.index c.unwrap.result.0 c.unwrap.result.1 c.self.invariant.1 at
    c.self.invariant.0
    c.swap_remove_index.new.self.entries c.swap_remove.new.self 0 left (c.swap_remove.ensures.items 0))

pub returns-clause-count : goal.returns-clause-count
returns-clause-count c =
    let some = subst (λ r. length c.swap_remove_index.new.self.entries + (if is_some r then 1 else 0) ≡ length c.self.inside.values.entries) c.unwrap.ensures
    c.swap_remove_index.ensures.len in
    let new = length-beside c.swap_remove_index.new.self.entries c.swap_remove.new.self in
    let old = length-beside c.self.inside.values.entries c.self.inside.ages in
    rw (← c.self.view_is) (omega (arith, some, new, old))

pub returns-clause-later : goal.returns-clause-later
returns-clause-later c = λ most all.
    let some = subst (λ r. length c.swap_remove_index.new.self.entries + (if is_some r then 1 else 0) ≡ length c.self.inside.values.entries) c.unwrap.ensures
    c.swap_remove_index.ensures.len in
    let new = length-beside c.swap_remove_index.new.self.entries c.swap_remove.new.self in
    let old = length-beside c.self.inside.values.entries c.self.inside.ages in
    let n = length c.self.inside.ages in
    let full : 0 < length c.self.inside.ages = omega (arith, some, c.self.invariant.0) in
    let len : length c.swap_remove.new.self + 1 ≡ length c.self.inside.ages = ap (λ l. length l + 1) (c.swap_remove.ensures.items 0)
    ∙ length-moved c.self.inside.ages c.args.index full in
    let same : length c.swap_remove.new.self ≡ length c.swap_remove_index.new.self.entries = omega (arith, some, len, c.self.invariant.0) in
    let moved = c.swap_remove.ensures.items 0 in
    rw (ages-beside c.swap_remove_index.new.self.entries c.swap_remove.new.self same, new)
    (λ k d. later_stays c.self.inside.ages c.swap_remove.new.self c.args.index (length c.swap_remove_index.new.self.entries) n most
    (omega (arith, some, c.self.invariant.0)) (
      (λ d less. moved-last c.self.inside.ages c.swap_remove.new.self c.args.index n d moved refl less),
      (λ j d other less. moved-other c.self.inside.ages c.swap_remove.new.self c.args.index j n d moved refl other less),
    )
    (subst (λ l. AllWithin (λ age. age ≤ most) l (c.args.index + 1) n) (ages-beside c.self.inside.values.entries c.self.inside.ages c.self.invariant.0)
    (subst (λ m. AllWithin (λ age. age ≤ most) (ages_of (beside c.self.inside.values.entries c.self.inside.ages)) (c.args.index + 1) m)
    (old ∙ sym c.self.invariant.0) (rw c.self.view_is all))) k d)

pub returns-clause-keys : goal.returns-clause-keys
returns-clause-keys c =
    let at : slice_get c.self.inside.values.entries c.args.index ≡ Some (c.unwrap.result.0, c.unwrap.result.1) = sym c.swap_remove_index.ensures.entry
    ∙ c.unwrap.ensures in
    let left : c.swap_remove_index.new.self.entries ≡ swap_remove c.self.inside.values.entries c.args.index (c.unwrap.result.0, c.unwrap.result.1) =
    subst (λ r. IfSome r (λ p. c.swap_remove_index.new.self.entries ≡ swap_remove c.self.inside.values.entries c.args.index p)) c.unwrap.ensures
    c.swap_remove_index.ensures.entries in
    rw (← c.self.view_is) (remove-keys c.self.inside.values.entries c.self.inside.ages c.args.index c.unwrap.result.0 c.unwrap.result.1 c.self.invariant.1 at
    c.swap_remove_index.new.self.entries c.swap_remove.new.self left)

pub returns-clause-one_for_each : goal.returns-clause-one_for_each
returns-clause-one_for_each c = rw (← c.self.view_is, keys-beside c.self.inside.values.entries c.self.inside.ages) c.self.invariant.1
