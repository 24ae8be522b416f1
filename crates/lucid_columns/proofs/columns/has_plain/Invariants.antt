use Rattle.lucid_columns.proofs.Common.{◌≡◌, drop, defs_of, definition, is_plain}
use Rattle.lucid_columns.proofs.columns.has_plain.Given as goal

-- what is left has the first definition
abbrev pub invariant-loop-def : goal.invariant-loop-def
invariant-loop-def l = is_plain (definition l.name (defs_of (drop l.def-index l.def-items))) ≡ is_plain (definition l.name (defs_of l.def-items))
