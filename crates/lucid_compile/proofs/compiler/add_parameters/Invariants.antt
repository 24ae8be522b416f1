use Rattle.lucid_compile.proofs.Common.{length, take, ◌-◌, Numbered, linked, AddsParameters}
use Rattle.lucid_compile.proofs.compiler.add_parameters.Given as goal

-- the parameters before this one have their rows
abbrev pub invariant-loop-i : goal.invariant-loop-i
invariant-loop-i l = (w : Numbered) → AddsParameters w (linked w l.initial.rows) (linked w l.rows) l.here (take l.i l.places)

abbrev pub decreases-loop-i : goal.decreases-loop-i
decreases-loop-i l = length l.places - l.i
