use Rattle.std.proofs.Common.{◌≡◌, ◌-◌, ◌≤◌, List, ◌++◌, length, drop}
use Rattle.lucid_scope.specs.Scoped.{scoped_inputs}
use Rattle.lucid_explain_run.specs.declared.inputs.Lacking.{Lacking}
use Rattle.lucid_explain_run.specs.Inputs.{AreFirst, AreLacking}
use Rattle.lucid_explain_run.proofs.inputs.all_lacking.Given as goal

abbrev pub invariant-loop-name : goal.invariant-loop-name
invariant-loop-name l = record {
  few : length l.those.items ≤ 6;
  number : l.stream ≡ l.name-index;
  goes_on : (more : List Lacking) → AreFirst l.sought.scoped.now l.sought.given.now l.sought.end (6 - length l.those.items) l.stream (drop l.name-index (scoped_inputs l.sought.scoped.now)) more
      → AreLacking l.sought.scoped.now l.sought.given.now l.sought.end (l.those.items ++ more);
}
