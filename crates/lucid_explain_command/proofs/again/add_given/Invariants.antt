use Rattle.lucid_explain_command.proofs.Common.{map, take, plain_given, given_file}
use Rattle.lucid_explain_command.specs.Errors.{plain_file, as_named, Adds}
use Rattle.lucid_explain_command.proofs.again.add_given.Given as goal

abbrev pub invariant-loop-word : goal.invariant-loop-word
invariant-loop-word g l =
    Adds (g.F.Outlook.files l.outlook) (map as_named (map given_file (map plain_given (take l.word-index l.given)))) (map plain_file l.fn.files.items)
    (map plain_file l.files.items)
