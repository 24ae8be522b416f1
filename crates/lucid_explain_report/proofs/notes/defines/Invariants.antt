use Rattle.lucid_explain_report.proofs.Common.{◌≡◌, length}
use Rattle.lucid_explain_report.specs.Notes.{any_end, heads}
use Rattle.lucid_explain_report.proofs.notes.defines.Given as goal

abbrev pub invariant-loop-others : goal.invariant-loop-others
invariant-loop-others l = any_end (heads l.source l.name) l.rest ≡ any_end (heads l.source l.name) l.block

abbrev pub decreases-loop-others : goal.decreases-loop-others
decreases-loop-others l = length l.rest
