use Rattle.std.proofs.Common.{map, ◌≡◌, ◌++◌, drop}
use Rattle.lucid_show_grid.specs.Grids.{plain_mark}
use Rattle.lucid_show_grid.specs.Text.{values_text}
use Rattle.lucid_show_grid.proofs.text.put_values.Given as goal

-- what is written and what is left are all
abbrev pub invariant-loop-time : goal.invariant-loop-time
invariant-loop-time l = l.to.items ++ values_text l.columns (map plain_mark l.marks) (drop l.time-index l.times) ≡ l.initial.to.items ++ values_text l.columns (map plain_mark l.marks) l.times
