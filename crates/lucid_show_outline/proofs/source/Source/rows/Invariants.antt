use Rattle.std.proofs.Common.{◌≡◌, ◌++◌, drop}
use Rattle.lucid_show_outline.specs.Tests.{judgments_at}
use Rattle.lucid_show_outline.specs.Runs.{lent_judgments}
use Rattle.lucid_show_outline.specs.Views.{view_of}
use Rattle.lucid_show_outline.proofs.source.Source.rows.Given as goal

-- those so far and those that are left
abbrev pub invariant-loop-number : goal.invariant-loop-number
invariant-loop-number l =
    lent_judgments l.rows.items ++ judgments_at (view_of l.self).judgments (drop l.number-index l.numbers) ≡ judgments_at (view_of l.self).judgments l.numbers
