use Rattle.std.proofs.Common.{◌≡◌, ◌++◌, drop}
use Rattle.lucid_show_outline.specs.Lines.{entries_text}
use Rattle.lucid_show_outline.specs.Views.{view_of}
use Rattle.lucid_show_outline.proofs.outline.put_entries.Given as goal

-- what is written and what is left are the lines
abbrev pub invariant-loop-entry : goal.invariant-loop-entry
invariant-loop-entry l =
    l.to.items ++ entries_text (view_of l.source) (drop l.entry-index l.entries) ≡ l.initial.to.items ++ entries_text (view_of l.source) l.entries
