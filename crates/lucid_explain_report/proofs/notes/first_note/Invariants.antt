use Rattle.lucid_explain_report.proofs.Common.{◌≡◌, length}
use Rattle.lucid_explain_report.specs.Notes.{first_end, note_at}
use Rattle.lucid_explain_report.proofs.notes.first_note.Given as goal

abbrev pub invariant-loop-others : goal.invariant-loop-others
invariant-loop-others l = first_end (note_at l.source l.all) l.rest ≡ first_end (note_at l.source l.all) l.all

abbrev pub decreases-loop-others : goal.decreases-loop-others
decreases-loop-others l = length l.rest
