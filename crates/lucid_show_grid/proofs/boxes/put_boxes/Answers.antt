use Rattle.std.proofs.Common.{append_assoc}
use Rattle.lucid_show_grid.proofs.Loops.{boxes_more}
use Rattle.lucid_show_grid.proofs.boxes.put_boxes.Goals as goal

pub loop-placed-preserved : goal.loop-placed-preserved
loop-placed-preserved c =
    rw (c.in_ok-put_box.ensures, append_assoc, c.placed-item.is, ← boxes_more c.args.values.now c.loop-placed.placed-index c.placed-item.result c.loop-placed-test.true) c.loop-placed.invariant
