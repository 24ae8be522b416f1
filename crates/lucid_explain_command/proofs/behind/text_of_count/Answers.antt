use Rattle.std.proofs.Common.{map, ◌≡◌, ◌∙◌}
use Rattle.std.specs.String.{string_bytes}
use Rattle.std.proofs.lemmas.Result.{IfOk-weaker}
use Rattle.lucid_words.specs.Asked.{plain_words}
use Rattle.lucid_explain_command.specs.Behind.{SaysCount, read}
use Rattle.lucid_explain_command.proofs.behind.text_of_count.Goals as goal

pub returns-in-Ok : goal.returns-in-Ok
returns-in-Ok c =
    IfOk-weaker c.from_slice.result (λ text. text.items ≡ c.count_said.result.now) (λ text. SaysCount (map string_bytes c.args.words.now) text.items)
    (λ text e. read (plain_words c.in-Ok.asked) c.in-Ok.ensures.asked (e ∙ c.count_said.ensures)) c.from_slice.ensures.items
