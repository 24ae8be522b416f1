use Rattle.lucid_explain_command.proofs.Common.{sym, subst, ◌≡◌, ◌∙◌, ap, plain_words, IfOk-weaker}
use Rattle.std.specs.Prelude.{Bool}
use Rattle.lucid_explain_command.specs.Errors.{behind_free, SaysUnmade}
use Rattle.lucid_explain_command.proofs.errors.text_unmade.Goals as goal

pub returns-then-is_terminal : goal.returns-then-is_terminal
returns-then-is_terminal g c =
    let P : Bool → Type 0 = λ b. SaysUnmade b (plain_words c.args.call.now.asked.now) c.args.call.now.source.now c.new.result.items in
    subst P (sym (sym c.is_terminal.ensures ∙ c.if-is_terminal.true)) c.new.ensures.items

pub returns : goal.returns
returns g c =
    let asked = plain_words c.args.call.now.asked.now in
    let source = c.args.call.now.source.now in
    IfOk-weaker c.behind_free.result (λ text. text.items ≡ behind_free c.deref.result.now)
    (λ text. SaysUnmade (g.F.Outlook.terminal c.args.outlook.now) asked source text.items)
    (λ text e. let P : Bool → Type 0 = λ b. SaysUnmade b asked source text.items in
    subst P (sym (sym c.is_terminal.ensures ∙ c.if-is_terminal.false))
    (c.in_ok-said.said.items, c.in_ok-said.ensures, e ∙ ap behind_free c.deref.ensures.value)) c.behind_free.ensures
