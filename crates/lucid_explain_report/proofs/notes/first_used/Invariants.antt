use Rattle.lucid_explain_report.proofs.Common.{◌≡◌, length}
use Rattle.lucid_explain_report.specs.Notes.{first_end, used_at}
use Rattle.lucid_explain_report.proofs.notes.first_used.Given as goal

abbrev pub invariant-loop-others : goal.invariant-loop-others
invariant-loop-others l = first_end (used_at l.source l.name) l.rest ≡ first_end (used_at l.source l.name) l.block

abbrev pub decreases-loop-others : goal.decreases-loop-others
decreases-loop-others l = length l.rest
