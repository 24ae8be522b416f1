use Rattle.std.proofs.Common.{map, ◌≡◌, ◌++◌, drop}
use Rattle.lucid_show_grid.specs.Places.{plain_placed}
use Rattle.lucid_show_grid.specs.Arrows.{arrows_text}
use Rattle.lucid_show_grid.proofs.arrows.put_arrows.Given as goal

-- what is written and what is left are all
abbrev pub invariant-loop-arrow : goal.invariant-loop-arrow
invariant-loop-arrow l = l.to.items ++ arrows_text (map plain_placed l.values) (drop l.arrow-index l.arrows) ≡ l.initial.to.items ++ arrows_text (map plain_placed l.values) l.arrows
