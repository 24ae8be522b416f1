use Rattle.lucid_explain_command.proofs.Common.{refl, sym, ◌∙◌}
use Rattle.lucid_explain_report.specs.Files.{plain_again}
use Rattle.lucid_explain_command.specs.Errors.{standard_input, a_file}
use Rattle.lucid_explain_command.proofs.again.read_again.Goals as goal

pub returns-then-is_standard : goal.returns-then-is_standard
returns-then-is_standard g c = standard_input (sym c.is_standard.ensures ∙ c.if-is_standard.true) refl

pub returns : goal.returns
returns g c =
    a_file (plain_again c.in_ok-again.again) (sym c.is_standard.ensures ∙ c.if-is_standard.false) c.in_ok-again.ensures c.bytes_of.ensures
