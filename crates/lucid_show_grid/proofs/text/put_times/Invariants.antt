use Rattle.std.proofs.Common.{◌≡◌, ◌++◌, drop}
use Rattle.lucid_show_grid.specs.Text.{times_text}
use Rattle.lucid_show_grid.proofs.text.put_times.Given as goal

-- what is written and what is left are all
abbrev pub invariant-loop-time : goal.invariant-loop-time
invariant-loop-time l = l.to.items ++ times_text l.columns (drop l.time-index l.times) ≡ l.initial.to.items ++ times_text l.columns l.times
