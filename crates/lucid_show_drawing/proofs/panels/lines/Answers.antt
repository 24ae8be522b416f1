use Rattle.lucid_show_drawing.proofs.Common.{◌≡◌, ◌∷◌, [], Some, map, sym, ap, subst, ◌∙◌, slice_get}
use Rattle.std.proofs.lemmas.List.{map-append}
use Rattle.lucid_show_grid.specs.Grids.{plain_line}
use Rattle.lucid_show_outline.specs.Views.{view_of}
use Rattle.lucid_show_drawing.specs.Panels.{plain_roles}
use Rattle.lucid_show_drawing.specs.declared.asked.Asked.{Asked}
use Rattle.lucid_show_drawing.specs.Orders.{RowsTogether}
use Rattle.lucid_show_drawing.proofs.Grouped.{all_lines, line_more}
use Rattle.lucid_show_drawing.proofs.Together.{SideBySide-drop}
use Rattle.lucid_show_drawing.proofs.panels.lines.Goals as goal

pub loop-first-preserved : goal.loop-first-preserved
loop-first-preserved c =
    let at_front : slice_get c.loop-first.rest.now 0 ≡ Some c.in-Some.first.now = sym c.in-Some.ensures.value in
    record {
      together = subst RowsTogether (sym c.split_at.ensures.back)
          (SideBySide-drop (λ (a : Asked). a.spot.row) c.in_row.result c.loop-first.rest.now c.loop-first.invariant.together);
      so_far = line_more (view_of c.args.source.now) (plain_roles c.args.roles.now) c.args.panel.now c.loop-first.rest.now c.split_at.result.0.now
          c.split_at.result.1.now c.in_row.result c.in-Some.first.now c.split_at.ensures.front c.split_at.ensures.back at_front
          (plain_line c.in_ok-line.field-0) (map plain_line c.loop-first.lines.items) (map plain_line c.push.new.self.items)
          c.loop-first.invariant.together c.in_row.ensures c.in_ok-line.ensures
          (ap (map plain_line) c.in_ok-push.ensures.items ∙ map-append plain_line c.loop-first.lines.items (c.in_ok-line.field-0 ∷ []))
          c.loop-first.invariant.so_far;
    }

pub returns : goal.returns
returns c =
    all_lines (view_of c.args.source.now) (plain_roles c.args.roles.now) c.args.panel.now c.loop-first.rest.now
    (map plain_line c.loop-first.lines.items) c.in_default.ensures.value c.loop-first.invariant.so_far
