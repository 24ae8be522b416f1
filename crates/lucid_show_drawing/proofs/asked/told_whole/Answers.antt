use Rattle.lucid_show_drawing.proofs.Common.{◌∙◌}
use Rattle.lucid_show_outline.specs.Views.{view_of}
use Rattle.lucid_show_drawing.proofs.Telling.{asked_none, asked_one, not_false, not_true, told_none, told_one}
use Rattle.lucid_show_drawing.proofs.asked.told_whole.Goals as goal
use Rattle.lucid_show_drawing.proofs.asked.told_whole.Goals.{then-not-entry+in_ok-push, else-not-entry}

pub loop-entry-preserved : goal.loop-entry-preserved
loop-entry-preserved c =
    elim c.if-not-entry.branch [
      | then-not-entry+in_ok-push w ↦ record {
        same = told_one c.args.entries.now c.loop-entry.entry-index _ c.loop-entry-test.true (not_true _ w.if-not-entry.true) c.loop-entry.all.items
            c.if-not-entry.all.items w.asked_for.result w.asked_for.ensures.number ((λ j. (w.all-is j).items) ∙ w.in_ok-push.ensures.items) c.loop-entry.invariant.same;
        each = asked_one (view_of c.args.source.now) c.loop-entry.all.items c.if-not-entry.all.items w.asked_for.result
            ((λ j. (w.all-is j).items) ∙ w.in_ok-push.ensures.items) w.asked_for.ensures.is c.loop-entry.invariant.each;
      }
      | else-not-entry w ↦ record {
        same = told_none c.args.entries.now c.loop-entry.entry-index _ c.loop-entry-test.true (not_false _ w.if-not-entry.false) c.loop-entry.all.items
            c.if-not-entry.all.items (λ j. (w.all-is j).items) c.loop-entry.invariant.same;
        each = asked_none (view_of c.args.source.now) c.loop-entry.all.items c.if-not-entry.all.items (λ j. (w.all-is j).items) c.loop-entry.invariant.each;
      }
    ]
