use Rattle.lucid_store.proofs.Common.{◌≡◌, None, is_some, position, sym, ap, ◌∙◌, option_map, option_and_then, lookup, slice_get-map, Value, Key, Entry, same_key, beside, value_in, renewed}
use Rattle.lucid_store.proofs.Besides.{absent-sets, none-beside, none_from_test, some_from_test, length-beside, value-beside, value_in-beside, found-beside, renew-sets, keys-beside}
use Rattle.lucid_store.proofs.datons.Datons.renew.Goals as goal

pub returns-in_err-index-clause-entries : goal.returns-in_err-index-clause-entries
returns-in_err-index-clause-entries c =
    let l = beside c.self.inside.values.entries c.self.inside.ages in
    let none : lookup (same_key c.args.key) l ≡ None =
    none-beside c.args.key c.self.inside.values.entries c.self.inside.ages (none_from_test _ (sym c.in_err-index.ensures.found)) in
    rw (← c.self.view_is) (absent-sets c.args.key l (option_map renewed (lookup (same_key c.args.key) l)) (ap (option_map renewed) none) none)

pub returns-in_err-index-clause-found : goal.returns-in_err-index-clause-found
returns-in_err-index-clause-found c =
    ap is_some c.from_residual.ensures ∙ rw (← c.self.view_is)
    (c.in_err-index.ensures.found ∙ sym (found-beside c.args.key c.self.inside.values.entries c.self.inside.ages))

pub returns-in_err-index-clause-value : goal.returns-in_err-index-clause-value
returns-in_err-index-clause-value c =
    let l = beside c.self.inside.values.entries c.self.inside.ages in
    let none : lookup (same_key c.args.key) l ≡ None =
    none-beside c.args.key c.self.inside.values.entries c.self.inside.ages (none_from_test _ (sym c.in_err-index.ensures.found)) in
    ap (option_and_then (value_in c.args.self.now)) c.from_residual.ensures ∙ rw (← c.self.view_is) (sym (ap (option_map (λ (e : Entry). e.value)) none))

pub returns-clause-entries : goal.returns-clause-entries
returns-clause-entries c =
    let v = some_from_test _ (sym c.in_ok-index.ensures.found) in
    rw (← c.self.view_is) (renew-sets c.args.key v.0 c.self.inside.values.entries c.self.inside.ages c.in_ok-index.index (sym c.in_ok-index.ensures.index) v.1
    c.reset.new.self c.reset.ensures)

pub returns-clause-count : goal.returns-clause-count
returns-clause-count c = rw (← c.self.view_is) (length-beside c.self.inside.values.entries c.reset.new.self
    ∙ sym (length-beside c.self.inside.values.entries c.self.inside.ages))

pub returns-clause-found : goal.returns-clause-found
returns-clause-found c = rw (← c.self.view_is) (c.in_ok-index.ensures.found ∙ sym (found-beside c.args.key c.self.inside.values.entries c.self.inside.ages))

pub returns-clause-value : goal.returns-clause-value
returns-clause-value c = rw (← c.self.view_is) (value_in-beside c.self.inside.values.entries c.reset.new.self c.in_ok-index.index
    ∙ sym (slice_get-map (λ (e : Key × Value). e.1) c.self.inside.values.entries c.in_ok-index.index) ∙ c.in_ok-index.ensures.value
    ∙ sym (value-beside c.args.key c.self.inside.values.entries c.self.inside.ages))

pub returns-in_err-index-clause-place : goal.returns-in_err-index-clause-place
returns-in_err-index-clause-place c = c.from_residual.ensures ∙ c.in_err-index.ensures.index
    ∙ rw (← c.self.view_is) (ap (position (same_key c.args.key)) (sym (keys-beside c.self.inside.values.entries c.self.inside.ages)))

pub returns-in_err-index-clause-one_for_each : goal.returns-in_err-index-clause-one_for_each
returns-in_err-index-clause-one_for_each c = rw (← c.self.view_is, keys-beside c.self.inside.values.entries c.self.inside.ages) c.self.invariant.1

pub returns-clause-place : goal.returns-clause-place
returns-clause-place c = c.in_ok-index.ensures.index
    ∙ rw (← c.self.view_is) (ap (position (same_key c.args.key)) (sym (keys-beside c.self.inside.values.entries c.self.inside.ages)))

pub returns-clause-keys : goal.returns-clause-keys
returns-clause-keys c = rw (← c.self.view_is) (keys-beside c.self.inside.values.entries c.reset.new.self ∙ sym (keys-beside c.self.inside.values.entries c.self.inside.ages))

pub returns-clause-one_for_each : goal.returns-clause-one_for_each
returns-clause-one_for_each c = rw (← c.self.view_is, keys-beside c.self.inside.values.entries c.self.inside.ages) c.self.invariant.1
