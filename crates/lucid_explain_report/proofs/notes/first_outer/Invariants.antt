use Rattle.lucid_explain_report.proofs.Common.{◌≡◌, length}
use Rattle.lucid_explain_report.specs.Notes.{first_end, outer_at}
use Rattle.lucid_explain_report.proofs.notes.first_outer.Given as goal

abbrev pub invariant-loop-others : goal.invariant-loop-others
invariant-loop-others l = first_end (outer_at l.source l.block) l.rest ≡ first_end (outer_at l.source l.block) l.block

abbrev pub decreases-loop-others : goal.decreases-loop-others
decreases-loop-others l = length l.rest
