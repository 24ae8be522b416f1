use Rattle.lucid_scope.proofs.Common.{◌≡◌, ap, sym, subst, ◌∙◌, inr, refl, fold, [], None, nat_eq, All, lookup, mark_fault, mark_binding, with_mark, IsNonDecreasingBy, Mark, rules, merely, IsNonDecreasingBy-from_sort_by_key}
use Rattle.lucid_scope.proofs.Resolved.{all_marked, in_order, fit, few, different, least, no-fault, resolved}
use Rattle.lucid_scope.proofs.resolution.find.Goals as goal

pub first_fault-requires : goal.first_fault-requires
first_fault-requires c =
    fit c.args.tree.now c.deref.result.now c.requires
    (in_order c.args.tree.now c.into_marks-marks.result.items c.sort_by_key.new.self.items c.deref.result.now
    (ap (λ v. v.items) c.into_marks-marks.ensures ∙ all_marked c.make-walk.result c.walk_tree.new.walk c.args.tree.now c.make-walk.ensures.table
    c.make-walk.ensures.marks c.in_ok-walk_tree.ensures)
    c.in_ok-sort_by_key.ensures.permutation c.deref.ensures.value)

pub bindings_of-requires-clause-fits : goal.bindings_of-requires-clause-fits
bindings_of-requires-clause-fits c =
    fit c.args.tree.now c.deref-3.result.now c.requires
    (in_order c.args.tree.now c.into_marks-marks.result.items c.sort_by_key.new.self.items c.deref-3.result.now
    (ap (λ v. v.items) c.into_marks-marks.ensures ∙ all_marked c.make-walk.result c.walk_tree.new.walk c.args.tree.now c.make-walk.ensures.table
    c.make-walk.ensures.marks c.in_ok-walk_tree.ensures)
    c.in_ok-sort_by_key.ensures.permutation c.deref-3.ensures.value)

pub bindings_of-requires-clause-differ : goal.bindings_of-requires-clause-differ
bindings_of-requires-clause-differ c =
    different c.args.tree.now c.deref-3.result.now c.requires
    (in_order c.args.tree.now c.into_marks-marks.result.items c.sort_by_key.new.self.items c.deref-3.result.now
    (ap (λ v. v.items) c.into_marks-marks.ensures ∙ all_marked c.make-walk.result c.walk_tree.new.walk c.args.tree.now c.make-walk.ensures.table
    c.make-walk.ensures.marks c.in_ok-walk_tree.ensures)
    c.in_ok-sort_by_key.ensures.permutation c.deref-3.ensures.value)

pub bindings_of-requires-clause-few : goal.bindings_of-requires-clause-few
bindings_of-requires-clause-few c =
    rw c.in_ok-inputs.ensures
    (few c.args.tree.now c.deref-2.result.now c.requires
    (in_order c.args.tree.now c.into_marks-marks.result.items c.sort_by_key.new.self.items c.deref-2.result.now
    (ap (λ v. v.items) c.into_marks-marks.ensures ∙ all_marked c.make-walk.result c.walk_tree.new.walk c.args.tree.now c.make-walk.ensures.table
    c.make-walk.ensures.marks c.in_ok-walk_tree.ensures)
    c.in_ok-sort_by_key.ensures.permutation c.deref-2.ensures.value))

pub returns-in-Some-clause-fault : goal.returns-in-Some-clause-fault
returns-in-Some-clause-fault c =
    inr (least c.args.tree.now c.deref.result.now c.in-Some.fault
    (in_order c.args.tree.now c.into_marks-marks.result.items c.sort_by_key.new.self.items c.deref.result.now
    (ap (λ v. v.items) c.into_marks-marks.ensures ∙ all_marked c.make-walk.result c.walk_tree.new.walk c.args.tree.now c.make-walk.ensures.table
    c.make-walk.ensures.marks c.in_ok-walk_tree.ensures)
    c.in_ok-sort_by_key.ensures.permutation c.deref.ensures.value)
    (subst (λ l. IsNonDecreasingBy (λ (m : Mark). m.at) l) (sym c.deref.ensures.value)
    (IsNonDecreasingBy-from_sort_by_key (λ (m : Mark). m.at) _ c.in_ok-sort_by_key.ensures.sorted (λ a r q k. search rules)))
    c.in-Some.ensures)

pub returns-clause-resolved : goal.returns-clause-resolved
returns-clause-resolved c =
    merely (rw (c.into_names.ensures)
    (resolved c.args.tree.now c.sort_by_key.new.self.items c.in_ok-inputs.inputs.names.items (λ at. lookup (nat_eq at) c.in_ok-bindings.bindings.entries)
    (in_order c.args.tree.now c.into_marks-marks.result.items c.sort_by_key.new.self.items c.sort_by_key.new.self.items
    (ap (λ v. v.items) c.into_marks-marks.ensures ∙ all_marked c.make-walk.result c.walk_tree.new.walk c.args.tree.now c.make-walk.ensures.table
    c.make-walk.ensures.marks c.in_ok-walk_tree.ensures)
    c.in_ok-sort_by_key.ensures.permutation refl)
    (IsNonDecreasingBy-from_sort_by_key (λ (m : Mark). m.at) _ c.in_ok-sort_by_key.ensures.sorted (λ a r q k. search rules))
    (subst (λ l. All (λ (m : Mark). mark_fault m ≡ None) l) c.deref.ensures.value c.in-None.ensures)
    (c.in_ok-inputs.ensures ∙ ap (λ l. fold with_mark [] l) c.deref-2.ensures.value)
    (subst (λ l. All (λ (m : Mark). lookup (nat_eq m.at) c.in_ok-bindings.bindings.entries ≡ mark_binding c.in_ok-inputs.inputs.names.items m) l)
    c.deref-3.ensures.value c.in_ok-bindings.ensures.bound)
    (λ at h. c.in_ok-bindings.ensures.others at (subst (λ l. All (λ (m : Mark). m.at ≡ at → ⊥) l) (sym c.deref-3.ensures.value) h))))

pub returns-clause-no_fault : goal.returns-clause-no_fault
returns-clause-no_fault c =
    no-fault c.args.tree.now c.sort_by_key.new.self.items
    (in_order c.args.tree.now c.into_marks-marks.result.items c.sort_by_key.new.self.items c.sort_by_key.new.self.items
    (ap (λ v. v.items) c.into_marks-marks.ensures ∙ all_marked c.make-walk.result c.walk_tree.new.walk c.args.tree.now c.make-walk.ensures.table
    c.make-walk.ensures.marks c.in_ok-walk_tree.ensures)
    c.in_ok-sort_by_key.ensures.permutation refl)
    (subst (λ l. All (λ (m : Mark). mark_fault m ≡ None) l) c.deref.ensures.value c.in-None.ensures)
