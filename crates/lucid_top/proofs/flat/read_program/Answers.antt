use Rattle.lucid_top.proofs.Common.{◌≤◌, length, arith, err_from_is_err_and, most_flat_bytes, by_length}
use Rattle.lucid_top.proofs.Refusing.{flat_refuses, build_refuses}
use Rattle.lucid_top.proofs.flat.read_program.Goals as goal

pub returns-then-source-gt-MOST_FLAT_BYTES-clause-refused : goal.returns-then-source-gt-MOST_FLAT_BYTES-clause-refused
returns-then-source-gt-MOST_FLAT_BYTES-clause-refused c = let long = c.if-source-gt-MOST_FLAT_BYTES.true in by_length (omega (arith, long))

pub returns-in_err-table-clause-refused : goal.returns-in_err-table-clause-refused
returns-in_err-table-clause-refused c =
    let p = err_from_is_err_and c.from_residual.result c.from_residual.ensures.1 in
    let few = c.if-source-gt-MOST_FLAT_BYTES.false in
    let short : length c.args.source.now ≤ most_flat_bytes = omega (arith, few) in
    rw (p.1, p.2) (flat_refuses c.args.source.now c.in_err-table.field-0.0 short c.in_err-table.ensures.refused)

pub returns-in_err-program-clause-refused : goal.returns-in_err-program-clause-refused
returns-in_err-program-clause-refused c =
    let p = err_from_is_err_and c.from_residual-in_err-program.result c.from_residual-in_err-program.ensures.1 in
    let few = c.if-source-gt-MOST_FLAT_BYTES.false in
    let short : length c.args.source.now ≤ most_flat_bytes = omega (arith, few) in
    rw (p.1, p.2) (build_refuses c.args.source.now c.in_ok-table.table c.in_err-program.field-0.0 (record { short = short; text = c.in_ok-table.ensures.text })
    c.in_err-program.ensures.refused)
