use Rattle.std.proofs.Common.{map}
use Rattle.std.specs.String.{string_bytes}
use Rattle.std.proofs.lemmas.Result.{IfOk-weaker}
use Rattle.lucid_words.specs.Asked.{plain_words}
use Rattle.lucid_explain_command.specs.Prompted.{asks_lines}
use Rattle.lucid_explain_command.specs.Behind.{NotesOf, SaysNote, words_read}
use Rattle.lucid_explain_command.proofs.behind.text_of_note.Goals as goal

pub returns-in-Ok : goal.returns-in-Ok
returns-in-Ok c =
    let asked = plain_words c.in-Ok.asked in
    let source = c.args.source.now in
    IfOk-weaker c.note_of_call.result (λ text. NotesOf (asks_lines asked) asked source text.items) (λ text. SaysNote (map string_bytes c.args.words.now) source text.items)
    (λ text e. words_read asked c.in-Ok.ensures.asked e) c.note_of_call.ensures
