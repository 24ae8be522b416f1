use Rattle.std.proofs.Common.{append_assoc}
use Rattle.lucid_show_grid.proofs.Loops.{names_more}
use Rattle.lucid_show_grid.proofs.picture.put_names.Goals as goal

pub loop-number-preserved : goal.loop-number-preserved
loop-number-preserved c =
    rw (c.in_ok-put_name.ensures, append_assoc, c.index-lines-number.is, ← names_more c.args.frame c.loop-number.number c.args.lines.now c.loop-number.number c.index-lines-number.result c.loop-number-test.true) c.loop-number.invariant
