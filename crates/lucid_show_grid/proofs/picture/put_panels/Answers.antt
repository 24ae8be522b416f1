use Rattle.std.proofs.Common.{append_assoc}
use Rattle.lucid_show_grid.proofs.Loops.{panel_frames_more}
use Rattle.lucid_show_grid.proofs.picture.put_panels.Goals as goal

pub loop-panel-preserved : goal.loop-panel-preserved
loop-panel-preserved c =
    rw (c.in_ok-put_panel.ensures, append_assoc, c.in_ok-y.ensures, c.panel-item.is, ← panel_frames_more c.loop-panel.y c.args.panels.now c.loop-panel.panel-index c.panel-item.result c.loop-panel-test.true) c.loop-panel.invariant
