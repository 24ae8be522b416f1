use Rattle.std.proofs.Common.{◌≡◌, drop}
use Rattle.lucid_show_outline.specs.Views.{view_of}
use Rattle.lucid_show_drawing.specs.Looked.{boxes_at, boxes_once, once}
use Rattle.lucid_show_drawing.proofs.looked.boxes.Given as goal

-- with those that are left they are all
abbrev pub invariant-loop-number : goal.invariant-loop-number
invariant-loop-number l = once l.boxes.keys (boxes_at (view_of l.source) (drop l.number-index l.numbers)) ≡ boxes_once (view_of l.source) l.numbers
