use Rattle.std.proofs.Common.{sym, ◌∙◌}
use Rattle.lucid_explain_command.proofs.again.read_before.Goals as goal

pub returns-then-is_standard : goal.returns-then-is_standard
returns-then-is_standard c = rw (sym c.is_standard.ensures ∙ c.if-is_standard.true)
