use Rattle.std.proofs.Common.{◌≡◌, ◌++◌, drop}
use Rattle.lucid_show_grid.specs.Parts.{parts_text}
use Rattle.lucid_show_grid.proofs.parts.put_parts.Given as goal

-- what is written and what is left are all
abbrev pub invariant-loop-part : goal.invariant-loop-part
invariant-loop-part l = l.to.items ++ parts_text (drop l.part-index l.parts) ≡ l.initial.to.items ++ parts_text l.parts
