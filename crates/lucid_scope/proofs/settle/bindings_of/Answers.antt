use Rattle.lucid_scope.proofs.Common.{ℕ, List, nat_eq, ap, sym, ◌∙◌, cond, get_or, lookup, Binding, HashMap, BuildHasherDefault, FoldHasher}
use Rattle.std.proofs.Common.{Option}
use Rattle.lucid_scope.proofs.Resolved.{Bound, bind-more, bind-none}
use Rattle.lucid_scope.proofs.settle.bindings_of.Goals as goal
use Rattle.lucid_scope.proofs.settle.bindings_of.Goals.{in-Some+in_ok-insert-in-Some, in-None}

pub loop-mark-preserved : goal.loop-mark-preserved
loop-mark-preserved c =
    let ms = c.args.marks.now in
    let inputs : List (List ℕ) = c.args.inputs.now.names.items in
    let i : ℕ = c.loop-mark.mark-index in
    let m = c.mark-item.result in
    let old : ℕ → Option Binding = λ q. lookup (nat_eq q) c.loop-mark.bindings.entries in
    let new : ℕ → Option Binding = λ q. lookup (nat_eq q) c.match-binding_of.bindings.entries in
    let before : Bound ms inputs i old = record { bound = c.loop-mark.invariant.0; others = c.loop-mark.invariant.1 } in
    elim c.match-binding_of.branch [
      | in-Some+in_ok-insert-in-Some w ↦
          let b = bind-more ms inputs i m old new c.loop-mark-test.true c.mark-item.is c.requires.differ
          (λ q.
          ap (λ (h : HashMap ℕ Binding (BuildHasherDefault FoldHasher)). lookup (nat_eq q) h.entries) w.bindings-is
          ∙ w.in_ok-insert-in-Some.ensures.updates.0 q
          ∙ ap (λ o. cond (nat_eq m.at q) o (old q)) (sym w.in-Some.is ∙ c.binding_of.ensures))
          before in
          (b.bound, b.others)
      | in-None w ↦
          let same = ap (λ (h : HashMap ℕ Binding (BuildHasherDefault FoldHasher)). h.entries) w.bindings-is in
          let b = bind-none ms inputs i m old c.loop-mark-test.true c.mark-item.is c.requires.differ (sym c.binding_of.ensures ∙ w.in-None.is) before in
          (λ k d h. ap (λ l. lookup (nat_eq (get_or ms k d).at) l) same ∙ b.bound k d h, λ at no. ap (λ l. lookup (nat_eq at) l) same ∙ b.others at no)
    ]
