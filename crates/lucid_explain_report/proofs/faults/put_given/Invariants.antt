use Rattle.std.proofs.Common.{map, take}
use Rattle.lucid_words.specs.Plain.{plain_given}
use Rattle.lucid_explain_report.specs.Said.{given_file, TellsFiles}
use Rattle.lucid_explain_report.proofs.faults.put_given.Given as goal

abbrev pub invariant-loop-word : goal.invariant-loop-word
invariant-loop-word g l = TellsFiles (g.F.Outlook.files l.outlook) (map given_file (map plain_given (take l.word-index l.given))) l.fn.text.items l.text.items
