use Rattle.lucid_explain_command.proofs.Common.{[], map, take, plain_given}
use Rattle.lucid_explain_command.specs.Errors.{plain_input, Adds}
use Rattle.lucid_explain_command.proofs.again.inputs_again.Given as goal

abbrev pub invariant-loop-word : goal.invariant-loop-word
invariant-loop-word g l = Adds (g.F.Outlook.files l.outlook) (map plain_given (take l.word-index l.given)) [] (map plain_input l.inputs.items)
