use Rattle.lucid_show_drawing.proofs.Common.{ℕ, ◌+◌, ◌-◌, sym, ap, ◌∙◌}
use Rattle.lucid_show_drawing.specs.Spots.{without}
use Rattle.lucid_show_drawing.proofs.Frames.{without_more}
use Rattle.lucid_show_drawing.proofs.spot.without.Goals as goal

pub loop-frame-preserved : goal.loop-frame-preserved
loop-frame-preserved c =
    c.loop-frame.invariant
    ∙ without_more c.args.count c.loop-frame._frame c.args.contexts.now c.loop-frame.at c.loop-frame-test.true
    ∙ sym (ap (λ (k : ℕ). without (c.args.count - (c.loop-frame._frame + 1)) c.args.contexts.now k) c.base_at-at.ensures)
