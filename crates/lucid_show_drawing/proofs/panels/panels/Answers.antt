use Rattle.lucid_show_drawing.proofs.Common.{◌≡◌, ◌∷◌, [], Some, map, sym, ap, subst, ◌∙◌, slice_get}
use Rattle.std.proofs.lemmas.List.{map-append}
use Rattle.lucid_show_grid.specs.Grids.{plain_panel}
use Rattle.lucid_show_outline.specs.Views.{view_of}
use Rattle.lucid_show_drawing.specs.Panels.{plain_roles}
use Rattle.lucid_show_drawing.specs.declared.asked.Asked.{Asked}
use Rattle.lucid_show_drawing.specs.Orders.{RowsTogether, StandTogether}
use Rattle.lucid_show_drawing.proofs.Grouped.{all_panels, panel_more}
use Rattle.lucid_show_drawing.proofs.Together.{StandTogether-drop, front_rows, front_same}
use Rattle.lucid_show_drawing.proofs.panels.panels.Goals as goal

pub panel-requires-clause-together : goal.panel-requires-clause-together
panel-requires-clause-together c =
    subst RowsTogether (sym c.split_at.ensures.front)
    (front_rows c.in_context.result c.in-Some.first.now.spot.context c.loop-first.rest.now c.loop-first.invariant.together
    (front_same (λ (a : Asked). a.spot.context) c.loop-first.rest.now c.in-Some.first.now.spot.context c.in_context.result c.in_context.ensures))

pub loop-first-preserved : goal.loop-first-preserved
loop-first-preserved c =
    let at_front : slice_get c.loop-first.rest.now 0 ≡ Some c.in-Some.first.now = sym c.in-Some.ensures.value in
    record {
      together = subst StandTogether (sym c.split_at.ensures.back)
          (StandTogether-drop c.in_context.result c.loop-first.rest.now c.loop-first.invariant.together);
      so_far = panel_more (view_of c.args.source.now) (plain_roles c.args.roles.now) c.args.shown.now c.loop-first.rest.now c.split_at.result.0.now
          c.split_at.result.1.now c.in_context.result c.in-Some.first.now c.split_at.ensures.front c.split_at.ensures.back at_front
          (plain_panel c.in_ok-panel.field-0) (map plain_panel c.loop-first.panels.items) (map plain_panel c.push.new.self.items)
          c.loop-first.invariant.together c.in_context.ensures c.in_ok-panel.ensures
          (ap (map plain_panel) c.in_ok-push.ensures.items ∙ map-append plain_panel c.loop-first.panels.items (c.in_ok-panel.field-0 ∷ []))
          c.loop-first.invariant.so_far;
    }

pub returns : goal.returns
returns c =
    all_panels (view_of c.args.source.now) (plain_roles c.args.roles.now) c.args.shown.now c.loop-first.rest.now
    (map plain_panel c.loop-first.panels.items) c.in_default.ensures.value c.loop-first.invariant.so_far
