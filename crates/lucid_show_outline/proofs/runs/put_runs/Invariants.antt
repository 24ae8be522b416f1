use Rattle.std.proofs.Common.{◌≡◌, ◌++◌, drop}
use Rattle.lucid_show_outline.specs.Tests.{runs_from}
use Rattle.lucid_show_outline.specs.Runs.{lent_judgments, plain_run}
use Rattle.lucid_show_outline.proofs.runs.put_runs.Given as goal

-- what is written and what is left are the runs
abbrev pub invariant-loop-row : goal.invariant-loop-row
invariant-loop-row l =
    l.to.items ++ runs_from (plain_run l.run) (lent_judgments (drop l.row-index l.more)) ≡ l.initial.to.items ++ runs_from (plain_run l.fn.first) (lent_judgments l.more)
