use Rattle.std.proofs.Common.{◌≡◌, drop}
use Rattle.std.specs.Prelude.{find}
use Rattle.lucid_tree.specs.declared.tree.Def.{Def}
use Rattle.lucid_explain_source.specs.Scopes.{lent}
use Rattle.lucid_explain_run.specs.Inputs.{is_near}
use Rattle.lucid_explain_run.proofs.inputs.find_near.Given as goal

abbrev pub invariant-loop-def : goal.invariant-loop-def
invariant-loop-def l =
    let fit = λ (d : Def). is_near l.most l.name d.name in
    find fit (lent l.defs) ≡ find fit (lent (drop l.def-index l.defs))
