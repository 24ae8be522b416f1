use Rattle.std.proofs.Common.{◌≡◌, ℕ, ◌-◌, List, [], length, drop, sym, subst, arith}
use Rattle.std.proofs.lemmas.List.{append-nil, at_drop_all}
use Rattle.lucid_scope.specs.Scoped.{scoped_inputs}
use Rattle.lucid_explain_run.specs.declared.inputs.Lacking.{Lacking}
use Rattle.lucid_explain_run.specs.Inputs.{AreFirst, AreLacking, ended}
use Rattle.lucid_explain_run.proofs.inputs.all_lacking.Goals as goal

pub returns : goal.returns
returns c =
    let scoped = c.args.sought.now.scoped.now in
    let those = c.loop-name.those.items in
    let room = 6 - length those in
    let P : List Lacking → Type 0 = λ t. AreLacking scoped c.args.sought.now.given.now c.args.sought.now.end t in
    let R : List (List ℕ) → Type 0 = λ t. AreFirst scoped c.args.sought.now.given.now c.args.sought.now.end room c.loop-name.stream t [] in
    let none : drop c.loop-name.name-index (scoped_inputs scoped) ≡ [] =
    at_drop_all (λ (z : List (List ℕ)). z) (scoped_inputs scoped) c.loop-name.name-index
    (rw (sym c.inputs-name-items.ensures.value) (omega (arith, c.loop-name-test.false))) in
    subst P (append-nil those) (c.loop-name.invariant.goes_on [] (subst R (sym none) (ended room c.loop-name.stream)))
