-- Each digit makes the value ten times as big and adds itself, and a value that is too big stays so.
use Rattle.lucid_scan.proofs.Common.{arith}
use Rattle.lucid_scan.proofs.Numbers.{number_more, number_over}
use Rattle.lucid_scan.proofs.bytes.fits.Goals as goal

pub loop-digit-preserved : goal.loop-digit-preserved
loop-digit-preserved c =
    let more = number_more c.args.digits.now c.loop-digit.digit-index 0 c.loop-digit-test.true in
    record {
      value = omega (arith, more, c.loop-digit.invariant.value);
      small = omega (arith, c.if-value-more.false, c.type_inv.digits c.loop-digit.digit-index);
    }

pub returns-then-value-more : goal.returns-then-value-more
returns-then-value-more c = (
  λ never. cc,
  λ small. absurd (number_over c.args.digits.now c.loop-digit.digit-index 0 c.loop-digit-test.true
      (omega (arith, c.if-value-more.true, c.loop-digit.invariant.value)) small),
)
