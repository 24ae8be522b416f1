use Rattle.std.proofs.Common.{◌≡◌, ◌++◌, take}
use Rattle.std.specs.List.{flat_map}
use Rattle.lucid_explain_run.specs.Inputs.{lacking_text}
use Rattle.lucid_explain_run.proofs.inputs.put_all.Given as goal

abbrev pub invariant-loop-lacking : goal.invariant-loop-lacking
invariant-loop-lacking l = l.text.items ≡ l.initial.text.items ++ flat_map (lacking_text l.source) (take l.lacking-index l.those)
