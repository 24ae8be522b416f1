use Rattle.std.proofs.Common.{Bool, sym, subst, ◌∙◌}
use Rattle.std.specs.Prelude.{IfOk}
use Rattle.lucid_words.specs.Asked.{plain_words}
use Rattle.lucid_explain_command.specs.Behind.{NotesOf}
use Rattle.lucid_explain_command.proofs.behind.note_of_call.Goals as goal

pub returns-then-asks_lines : goal.returns-then-asks_lines
returns-then-asks_lines c =
    let P : Bool → Type 0 = λ b. IfOk c.explain_note.result (λ text. NotesOf b (plain_words c.args.asked.now) c.args.source.now text.items) in
    subst P (sym (sym c.asks_lines.ensures ∙ c.if-asks_lines.true)) c.explain_note.ensures
