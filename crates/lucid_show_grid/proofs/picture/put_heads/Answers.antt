use Rattle.std.proofs.Common.{append_assoc}
use Rattle.lucid_show_grid.proofs.Loops.{heads_more}
use Rattle.lucid_show_grid.proofs.picture.put_heads.Goals as goal

pub loop-column-preserved : goal.loop-column-preserved
loop-column-preserved c =
    rw (c.in_ok-put_head.ensures, append_assoc, ← heads_more c.args.frame c.loop-column.column c.args.times.now c.loop-column.column 0 c.loop-column-test.true) c.loop-column.invariant
