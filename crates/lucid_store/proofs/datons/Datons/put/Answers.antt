use Rattle.lucid_store.proofs.Common.{◌≡◌, true, Some, None, is_some, sym, ap, ◌∙◌, lookup, position_or_len, same_key, beside}
use Rattle.lucid_store.proofs.Besides.{put-known, put-new, put-popped, count-put, none-beside, keys-beside, put-keys}
use Rattle.lucid_store.proofs.datons.Datons.put.Goals as goal

pub returns-in-Ok-default-Some-clause-entries : goal.returns-in-Ok-default-Some-clause-entries
returns-in-Ok-default-Some-clause-entries c =
    let old = c.in-Ok-default-Some.ensures.old in
    rw (← c.self.view_is) (put-known c.args.key c.args.value c.self.inside.values.entries c.self.inside.ages c.insert_full.new.self.entries c.reset.new.self
    c.in-Ok-default-Some.ensures.entries
    c.in-Ok-default-Some.field-0-1-0 c.in-Ok-default-Some.index (sym old ∙ c.in-Ok-default-Some.field-0-1-is) c.in-Ok-default-Some.ensures.index
    c.reset.ensures)

pub returns-in-Ok-default-Some-clause-count : goal.returns-in-Ok-default-Some-clause-count
returns-in-Ok-default-Some-clause-count c = rw (← c.self.view_is)
    (count-put c.args.key c.self.inside.values.entries c.insert_full.new.self.entries c.self.inside.ages c.reset.new.self _ c.in-Ok-default-Some.ensures.old
    c.in-Ok-default-Some.ensures.len)

pub returns-clause-absent : goal.returns-clause-absent
returns-clause-absent c = rw (← c.self.view_is) (none-beside c.args.key c.self.inside.values.entries c.self.inside.ages c.in-Err.ensures.absent)

pub returns-in-Ok-clause-entries : goal.returns-in-Ok-clause-entries
returns-in-Ok-clause-entries c =
    let none : lookup (same_key c.args.key) c.self.inside.values.entries ≡ None = sym c.in-Ok-default-None.ensures.old ∙ c.in-Ok-default-None.field-0-1-is in
    rw (← c.self.view_is) (put-new c.args.key c.args.value c.self.inside.values.entries c.self.inside.ages c.insert_full.new.self.entries c.add.new.self
    c.in-Ok-default-None.ensures.entries
    none c.self.invariant.0 c.in-Ok.ensures.items)

pub returns-in-Ok-clause-count : goal.returns-in-Ok-clause-count
returns-in-Ok-clause-count c = rw (← c.self.view_is)
    (count-put c.args.key c.self.inside.values.entries c.insert_full.new.self.entries c.self.inside.ages c.add.new.self _ c.in-Ok-default-None.ensures.old
    c.in-Ok-default-None.ensures.len)

pub returns-in-Ok-default-None-clause-value_returned : goal.returns-in-Ok-default-None-clause-value_returned
returns-in-Ok-default-None-clause-value_returned c =
    let none : lookup (same_key c.args.key) c.self.inside.values.entries ≡ None = sym c.in-Ok-default-None.ensures.old ∙ c.in-Ok-default-None.field-0-1-is in
    let some : is_some c.pop.result ≡ true = ap is_some c.unwrap-value.ensures in
    let back = put-popped c.args.key c.args.value c.self.inside.values.entries c.self.inside.ages c.insert_full.new.self.entries c.add.new.self
    c.in-Ok-default-None.ensures.entries none c.pop.new.self.entries c.pop.result c.pop.ensures.entries some in
    let same : Some c.unwrap-value.result ≡ Some (c.args.key, c.args.value) = sym c.unwrap-value.ensures ∙ back.0 in
    let pair : c.unwrap-value.result ≡ (c.args.key, c.args.value) = cc in
    ap (λ p. p.1) pair

pub returns-in-Ok-default-None-clause-err : goal.returns-in-Ok-default-None-clause-err
returns-in-Ok-default-None-clause-err c =
    let none : lookup (same_key c.args.key) c.self.inside.values.entries ≡ None = sym c.in-Ok-default-None.ensures.old ∙ c.in-Ok-default-None.field-0-1-is in
    let some : is_some c.pop.result ≡ true = ap is_some c.unwrap-value.ensures in
    let back = put-popped c.args.key c.args.value c.self.inside.values.entries c.self.inside.ages c.insert_full.new.self.entries c.add.new.self
    c.in-Ok-default-None.ensures.entries none c.pop.new.self.entries c.pop.result c.pop.ensures.entries some in
    let ages : c.add.new.self ≡ c.self.inside.ages = c.in-Err-add.ensures.err in
    (λ j. beside (back.1 j) (ages j)) ∙ c.self.view_is

pub returns-in-Ok-default-None-clause-absent : goal.returns-in-Ok-default-None-clause-absent
returns-in-Ok-default-None-clause-absent c =
    let none : lookup (same_key c.args.key) c.self.inside.values.entries ≡ None = sym c.in-Ok-default-None.ensures.old ∙ c.in-Ok-default-None.field-0-1-is in
    rw (← c.self.view_is) (none-beside c.args.key c.self.inside.values.entries c.self.inside.ages none)

pub returns-in-Ok-default-Some-clause-place : goal.returns-in-Ok-default-Some-clause-place
returns-in-Ok-default-Some-clause-place c = c.in-Ok-default-Some.ensures.index
    ∙ rw (← c.self.view_is) (ap (position_or_len (same_key c.args.key)) (sym (keys-beside c.self.inside.values.entries c.self.inside.ages)))

pub returns-in-Ok-default-Some-clause-keys : goal.returns-in-Ok-default-Some-clause-keys
returns-in-Ok-default-Some-clause-keys c = rw (← c.self.view_is)
    (put-keys c.args.key c.args.value c.self.inside.values.entries c.self.inside.ages c.insert_full.new.self.entries c.reset.new.self
    c.in-Ok-default-Some.ensures.entries)

pub returns-in-Ok-default-Some-clause-one_for_each : goal.returns-in-Ok-default-Some-clause-one_for_each
returns-in-Ok-default-Some-clause-one_for_each c = rw (← c.self.view_is, keys-beside c.self.inside.values.entries c.self.inside.ages) c.self.invariant.1

pub returns-in-Ok-clause-place : goal.returns-in-Ok-clause-place
returns-in-Ok-clause-place c = c.in-Ok-default-None.ensures.index
    ∙ rw (← c.self.view_is) (ap (position_or_len (same_key c.args.key)) (sym (keys-beside c.self.inside.values.entries c.self.inside.ages)))

pub returns-in-Ok-clause-keys : goal.returns-in-Ok-clause-keys
returns-in-Ok-clause-keys c = rw (← c.self.view_is)
    (put-keys c.args.key c.args.value c.self.inside.values.entries c.self.inside.ages c.insert_full.new.self.entries c.add.new.self
    c.in-Ok-default-None.ensures.entries)

pub returns-in-Ok-clause-one_for_each : goal.returns-in-Ok-clause-one_for_each
returns-in-Ok-clause-one_for_each c = rw (← c.self.view_is, keys-beside c.self.inside.values.entries c.self.inside.ages) c.self.invariant.1

pub returns-in-Ok-default-None-clause-one_for_each : goal.returns-in-Ok-default-None-clause-one_for_each
returns-in-Ok-default-None-clause-one_for_each c = rw (← c.self.view_is, keys-beside c.self.inside.values.entries c.self.inside.ages) c.self.invariant.1

pub returns-clause-one_for_each : goal.returns-clause-one_for_each
returns-clause-one_for_each c = rw (← c.self.view_is, keys-beside c.self.inside.values.entries c.self.inside.ages) c.self.invariant.1
