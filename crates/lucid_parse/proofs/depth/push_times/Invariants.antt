use Rattle.lucid_parse.proofs.Common.{◌≡◌, copies}
use Rattle.lucid_parse.proofs.depth.push_times.Given as goal

-- so many copies are on the stack
abbrev pub invariant-loop-i : goal.invariant-loop-i
invariant-loop-i l = l.depths ≡ copies l.i l.depth l.initial.depths
