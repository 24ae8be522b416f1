use Rattle.lucid_parse.proofs.Common.{◌≡◌, length, inner_frames, inner_out}
use Rattle.lucid_parse.proofs.machine.Machine.close_operators.Given as goal

-- what is left closes as all does
abbrev pub invariant-loop-op : goal.invariant-loop-op
invariant-loop-op g l = record {
  frames : inner_frames l.self.frames ≡ inner_frames l.fn.self.frames;
  out : inner_out l.self.frames l.self.out.items ≡ inner_out l.fn.self.frames l.fn.self.out.items;
}

abbrev pub decreases-loop-op : goal.decreases-loop-op
decreases-loop-op g l = length l.self.frames
