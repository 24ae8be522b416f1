use Rattle.std.proofs.Common.{append_assoc}
use Rattle.lucid_show_grid.proofs.Loops.{escaped_more}
use Rattle.lucid_show_grid.proofs.escape.put_escaped.Goals as goal

pub loop-byte-preserved : goal.loop-byte-preserved
loop-byte-preserved c =
    rw (c.in_ok-put_byte.ensures, append_assoc, ← escaped_more c.args.text.now c.loop-byte.byte-index 0 c.loop-byte-test.true) c.loop-byte.invariant
