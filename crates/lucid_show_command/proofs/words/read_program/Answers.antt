use Rattle.lucid_show_command.proofs.Common.{List, map, ap, ◌∙◌, subst, string_bytes, plain_words}
use Rattle.clap.specs.Words.{Text}
use Rattle.lucid_words.specs.Plain.{Answers}
use Rattle.lucid_show_command.specs.Words.{certificate_asked}
use Rattle.lucid_show_command.proofs.words.read_program.Goals as goal

pub returns-clause-asked : goal.returns-clause-asked
returns-clause-asked c =
    subst (λ (texts : List Text). Answers plain_words (certificate_asked texts) c.read_certificate.result)
    (ap (map (string_bytes {Z = Rattle.std.specs.Global.Global})) c.deref.ensures.value ∙ c.in_ok-texts.ensures) c.read_certificate.ensures.asked
