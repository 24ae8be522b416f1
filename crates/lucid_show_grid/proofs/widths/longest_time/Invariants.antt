use Rattle.std.proofs.Common.{map, ◌≡◌, drop}
use Rattle.std.specs.Prelude.{decimal}
use Rattle.lucid_show_grid.specs.Widths.{longest}
use Rattle.lucid_show_grid.proofs.widths.longest_time.Given as goal

-- with what is left it is the longest
abbrev pub invariant-loop-time : goal.invariant-loop-time
invariant-loop-time l = longest l.longest (map decimal (drop l.time-index l.times)) ≡ longest l.least (map decimal l.times)
