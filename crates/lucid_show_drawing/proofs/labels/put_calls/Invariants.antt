use Rattle.std.proofs.Common.{◌≡◌, drop}
use Rattle.lucid_show_outline.specs.Views.{view_of}
use Rattle.lucid_show_drawing.specs.Labels.{calls_text}
use Rattle.lucid_show_drawing.proofs.labels.put_calls.Given as goal

-- those before are no calls
abbrev pub invariant-loop-asked : goal.invariant-loop-asked
invariant-loop-asked l = record {
  nothing : l.to.items ≡ l.initial.to.items;
  left : calls_text (view_of l.source) l.panel ≡ calls_text (view_of l.source) (drop l.asked-index l.panel);
}
