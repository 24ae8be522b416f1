use Rattle.lucid_parse.proofs.Common.{◌≡◌, length, shift}
use Rattle.lucid_parse.proofs.machine.Machine.shift_to.Given as goal

-- the operator goes on as it began
abbrev pub invariant-loop-allowed : goal.invariant-loop-allowed
invariant-loop-allowed g l = shift l.op l.at l.operand l.place l.self.frames l.self.out.items ≡ shift l.op l.at l.fn.level l.fn.allowed l.fn.self.frames
    l.fn.self.out.items

abbrev pub decreases-loop-allowed : goal.decreases-loop-allowed
decreases-loop-allowed g l = length l.self.frames
