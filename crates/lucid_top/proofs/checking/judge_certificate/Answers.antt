use Rattle.lucid_top.proofs.Common.{◌≤◌, length, arith, err_from_is_err_and, most_certificate_bytes, by_size}
use Rattle.lucid_top.proofs.Refusing.{certificate_refuses}
use Rattle.lucid_top.proofs.checking.judge_certificate.Goals as goal

pub returns-then-bytes-gt-MOST_CERTIFICATE_BYTES-clause-refused : goal.returns-then-bytes-gt-MOST_CERTIFICATE_BYTES-clause-refused
returns-then-bytes-gt-MOST_CERTIFICATE_BYTES-clause-refused c = let long = c.if-bytes-gt-MOST_CERTIFICATE_BYTES.true in by_size (omega (arith, long))

pub returns-in_err-why-clause-refused : goal.returns-in_err-why-clause-refused
returns-in_err-why-clause-refused c =
    let p = err_from_is_err_and c.from_residual.result c.from_residual.ensures.1 in
    let few = c.if-bytes-gt-MOST_CERTIFICATE_BYTES.false in
    let short : length c.args.bytes.now ≤ most_certificate_bytes = omega (arith, few) in
    rw (p.1, p.2) (certificate_refuses c.args.bytes.now c.in_err-why.field-0.0 short c.in_err-why.ensures.refused)

pub returns-clause-holds : goal.returns-clause-holds
returns-clause-holds c =
    let few = c.if-bytes-gt-MOST_CERTIFICATE_BYTES.false in
    record { short = omega (arith, few); text = c.in_ok-why.ensures.text }
