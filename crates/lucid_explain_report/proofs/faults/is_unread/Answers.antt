use Rattle.lucid_explain_report.specs.Files.{plain_again}
use Rattle.lucid_explain_report.proofs.faults.is_unread.Goals as goal

pub returns : goal.returns
returns g c = (plain_again c.in_ok-again.again, c.in_ok-again.ensures, c.shows_unread.ensures)
