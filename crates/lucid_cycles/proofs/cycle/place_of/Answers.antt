use Rattle.lucid_cycles.proofs.Common.{arith}
use Rattle.lucid_cycles.proofs.Lists.{none-in}
use Rattle.lucid_cycles.proofs.cycle.place_of.Goals as goal

pub returns : goal.returns
returns c = none-in c.args.number c.args.numbers.now (λ k h. c.loop-i.invariant k (omega (arith, h, c.loop-i-test.false)))
