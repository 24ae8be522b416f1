use Rattle.std.proofs.Common.{◌≡◌, ◌+◌, ◌*◌, ◌++◌, drop}
use Rattle.std.specs.List.{flat_map}
use Rattle.lucid_show_outline.specs.Views.{view_of}
use Rattle.lucid_show_drawing.specs.Looked.{looked}
use Rattle.lucid_show_drawing.proofs.looked.+looked.Given as goal

abbrev pub decreases-add_looked : goal.decreases-add_looked
decreases-add_looked l = 4 * l.levels

abbrev pub decreases-add_further : goal.decreases-add_further
decreases-add_further l = 4 * l.levels + 1

abbrev pub decreases-add_through : goal.decreases-add_through
decreases-add_through l = 4 * l.levels + 2

abbrev pub decreases-add_for : goal.decreases-add_for
decreases-add_for l = 4 * l.levels + 3

-- those so far, and those that are left
abbrev pub invariant-add_further-loop-number : goal.invariant-add_further-loop-number
invariant-add_further-loop-number l =
    l.to.items ++ flat_map (looked l.levels (view_of l.source)) (drop l.number-index l.numbers)
    ≡ l.initial.to.items ++ flat_map (looked l.levels (view_of l.source)) l.numbers
