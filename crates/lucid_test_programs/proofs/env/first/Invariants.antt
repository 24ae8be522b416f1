use Rattle.lucid_test_programs.proofs.Common.{◌≡◌, drop, defs_of, definition}
use Rattle.lucid_test_programs.proofs.env.first.Given as goal

-- what is left has the first definition
abbrev pub invariant-loop-d : goal.invariant-loop-d
invariant-loop-d l = definition l.name (defs_of (drop l.d-index l.d-items)) ≡ definition l.name (defs_of l.d-items)
