use Rattle.std.proofs.Common.{append_assoc}
use Rattle.lucid_show_grid.proofs.Loops.{lines_text_more}
use Rattle.lucid_show_grid.proofs.text.put_lines.Goals as goal

pub loop-line-preserved : goal.loop-line-preserved
loop-line-preserved c =
    rw (c.in_ok-put_line.ensures, append_assoc, c.line-item.is, ← lines_text_more c.args.columns c.args.times.now c.args.lines.now c.loop-line.line-index c.line-item.result c.loop-line-test.true) c.loop-line.invariant
