use Rattle.std.proofs.Common.{◌≡◌, ◌++◌, drop}
use Rattle.lucid_print.specs.Canonical.{parted_more}
use Rattle.lucid_show_outline.specs.Equations.{arguments, plain_parts}
use Rattle.lucid_show_outline.proofs.operators.put_more.Given as goal

-- what is written and what is left are the arguments
abbrev pub invariant-loop-part : goal.invariant-loop-part
invariant-loop-part l =
    l.to.items ++ parted_more (arguments (plain_parts (drop l.part-index l.parts))) ≡ l.initial.to.items ++ parted_more (arguments (plain_parts l.parts))
