use Rattle.std.proofs.Common.{append_assoc}
use Rattle.lucid_show_grid.proofs.Loops.{panels_text_more}
use Rattle.lucid_show_grid.proofs.text.put_panels.Goals as goal

pub loop-panel-preserved : goal.loop-panel-preserved
loop-panel-preserved c =
    rw (c.in_ok-put_panel.ensures, append_assoc, c.panel-item.is, ← panels_text_more c.args.panels.now c.loop-panel.panel-index c.panel-item.result c.loop-panel-test.true) c.loop-panel.invariant
