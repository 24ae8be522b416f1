use Rattle.std.proofs.Common.{◌≡◌, drop}
use Rattle.lucid_compile.specs.Static.{freezes}
use Rattle.lucid_tree.specs.DefsView.{defs_of}
use Rattle.lucid_show_outline.proofs.pieces.has_current.Given as goal

-- whether one is among the definitions that are left
abbrev pub invariant-loop-def : goal.invariant-loop-def
invariant-loop-def l = freezes (defs_of (drop l.def-index l.items)) ≡ freezes l.defs
