use Rattle.std.proofs.Common.{append_assoc}
use Rattle.lucid_show_outline.proofs.Loops.{arguments_more}
use Rattle.lucid_show_outline.proofs.operators.put_more.Goals as goal

pub loop-part-preserved : goal.loop-part-preserved
loop-part-preserved c =
    rw (c.in_ok-put_at.ensures, c.in_ok-extend_from_slice.ensures.items, append_assoc, append_assoc, c.part-item.is, ← arguments_more c.args.parts.now c.loop-part.part-index c.part-item.result c.loop-part-test.true) c.loop-part.invariant
