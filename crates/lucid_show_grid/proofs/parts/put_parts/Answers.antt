use Rattle.std.proofs.Common.{append_assoc}
use Rattle.lucid_show_grid.proofs.Loops.{parts_more}
use Rattle.lucid_show_grid.proofs.parts.put_parts.Goals as goal

pub loop-part-preserved : goal.loop-part-preserved
loop-part-preserved c =
    rw (c.in_ok-put_part.ensures, append_assoc, ← parts_more c.args.parts.now c.loop-part.part-index _ c.loop-part-test.true) c.loop-part.invariant
