use Rattle.std.proofs.Common.{append_assoc}
use Rattle.lucid_show_grid.proofs.Loops.{times_text_more}
use Rattle.lucid_show_grid.proofs.text.put_times.Goals as goal

pub loop-time-preserved : goal.loop-time-preserved
loop-time-preserved c =
    rw (c.in_ok-put_number.ensures, append_assoc, ← times_text_more c.args.columns c.args.times.now c.loop-time.time-index 0 c.loop-time-test.true) c.loop-time.invariant
