use Rattle.std.proofs.Common.{◌≡◌, ◌++◌, drop}
use Rattle.lucid_show_outline.specs.Chosen.{chosen}
use Rattle.lucid_show_outline.specs.Views.{view_of}
use Rattle.lucid_show_outline.proofs.choice.chosen.Given as goal

-- what is found and what is left are all
abbrev pub invariant-loop-entry : goal.invariant-loop-entry
invariant-loop-entry l = l.told.items ++ chosen (view_of l.source) (drop l.entry-index l.entries) ≡ chosen (view_of l.source) l.entries
