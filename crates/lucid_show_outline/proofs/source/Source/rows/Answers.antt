use Rattle.std.proofs.Common.{append_assoc}
use Rattle.lucid_show_outline.specs.Views.{view_of}
use Rattle.lucid_show_outline.proofs.Loops.{judgments_more}
use Rattle.lucid_show_outline.proofs.source.Source.rows.Goals as goal

pub loop-number-preserved : goal.loop-number-preserved
loop-number-preserved c =
    rw (c.in_ok-add_row.ensures, append_assoc, ← judgments_more (view_of c.args.self.now).judgments c.args.numbers.now c.loop-number.number-index 0 c.loop-number-test.true) c.loop-number.invariant
