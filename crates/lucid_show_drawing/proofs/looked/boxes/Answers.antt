use Rattle.lucid_show_outline.specs.Views.{view_of}
use Rattle.lucid_show_drawing.proofs.Boxes.{boxes_more}
use Rattle.lucid_show_drawing.proofs.looked.boxes.Goals as goal

pub loop-number-preserved : goal.loop-number-preserved
loop-number-preserved c =
    rw (c.in_ok-insert.ensures.keys, c.box_at.ensures, ← boxes_more (view_of c.args.source.now) c.loop-number.boxes.keys c.args.numbers.now c.loop-number.number-index 0 c.loop-number-test.true) c.loop-number.invariant
