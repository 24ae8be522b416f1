use Rattle.std.proofs.Common.{◌≡◌, ◌++◌, drop}
use Rattle.std.specs.Prelude.{All}
use Rattle.lucid_show_outline.specs.Views.{view_of}
use Rattle.lucid_show_drawing.specs.Shown.{IsAsked, numbers, told_whole}
use Rattle.lucid_show_drawing.proofs.asked.told_whole.Given as goal

-- those so far, and those that are left
abbrev pub invariant-loop-entry : goal.invariant-loop-entry
invariant-loop-entry l = record {
  same : numbers l.all.items ++ told_whole (drop l.entry-index l.entries) ≡ told_whole l.entries;
  each : All (IsAsked (view_of l.source)) l.all.items;
}
