use Rattle.lucid_show_outline.specs.Views.{view_of}
use Rattle.lucid_show_drawing.specs.Panels.{plain_roles}
use Rattle.lucid_show_drawing.proofs.Grouped.{marks_more}
use Rattle.lucid_show_drawing.proofs.panels.marks.Goals as goal

pub loop-asked-preserved : goal.loop-asked-preserved
loop-asked-preserved c =
    marks_more (view_of c.args.source.now) (plain_roles c.args.roles.now) c.args.these.now c.loop-asked.asked-index _ c.loop-asked-test.true
    c.loop-asked.marks.items c.push.new.self.items c.in_ok-mark.field-0 c.in_ok-push.ensures.items c.in_ok-mark.ensures c.loop-asked.invariant
