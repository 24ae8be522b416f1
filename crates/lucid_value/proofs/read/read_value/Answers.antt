use Rattle.lucid_value.proofs.Common.{subst, IsRead}
use Rattle.lucid_value.proofs.Trimmed.{trimmed_unread}
use Rattle.lucid_value.proofs.read.read_value.Goals as goal

pub returns-in-None-clause-refused : goal.returns-in-None-clause-refused
returns-in-None-clause-refused c = λ is.
    trimmed_unread c.args.line.now c.trim_start.result.now c.trim_end.result.now c.trim_start.ensures c.trim_end.ensures
    (subst (λ read. IsRead read c.trim_end.result.now) c.in-None.is c.in_ok-value.ensures)
