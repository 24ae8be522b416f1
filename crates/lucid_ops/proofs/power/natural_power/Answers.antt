use Rattle.lucid_ops.proofs.Common.{arith, ints}
use Rattle.lucid_ops.proofs.Powers.{power_of_zero, power_of_one, even_power, odd_power}
use Rattle.lucid_ops.proofs.power.natural_power.Goals as goal

pub returns-then-base-eq0 : goal.returns-then-base-eq0
returns-then-base-eq0 c = power_of_zero c.args.base c.args.exponent (omega (arith, ints)) c.if-exponent-lt-HUGE_EXPONENT.false

pub returns-then-base-eq1 : goal.returns-then-base-eq1
returns-then-base-eq1 c = power_of_one c.args.base c.args.exponent (omega (arith, ints))

pub returns-then-exponent-eq0 : goal.returns-then-exponent-eq0
returns-then-exponent-eq0 c = even_power c.args.base c.args.exponent (omega (arith, ints)) c.if-exponent-eq0.true

pub returns-else-exponent-eq0 : goal.returns-else-exponent-eq0
returns-else-exponent-eq0 c = odd_power c.args.base c.args.exponent (omega (arith, ints)) c.if-exponent-eq0.false
