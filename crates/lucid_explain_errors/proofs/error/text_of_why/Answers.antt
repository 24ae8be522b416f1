use Rattle.std.proofs.Common.{sym}
use Rattle.lucid_explain_errors.specs.Errors.{no_error}
use Rattle.lucid_explain_errors.proofs.error.text_of_why.Goals as goal

pub returns-in-None : goal.returns-in-None
returns-in-None c = no_error (sym c.in-None.ensures) c.new.ensures.items
