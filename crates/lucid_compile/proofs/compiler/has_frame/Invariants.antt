use Rattle.lucid_compile.proofs.Common.{◌≡◌, drop, freezes, defs_of}
use Rattle.lucid_compile.proofs.compiler.has_frame.Given as goal

-- whether the block has a frame rests on the definitions that are left
abbrev pub invariant-loop-def : goal.invariant-loop-def
invariant-loop-def l = freezes (defs_of (drop l.def-index l.items)) ≡ freezes l.defs
