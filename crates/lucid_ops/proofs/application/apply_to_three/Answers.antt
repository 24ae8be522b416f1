use Rattle.lucid_ops.proofs.Common.{arith}
use Rattle.lucid_ops.proofs.Rule.{row_decides_three}
use Rattle.lucid_ops.proofs.application.apply_to_three.Goals as goal

pub returns-in_default : goal.returns-in_default
returns-in_default c =
    let n = c.in_default in
    rw (row_decides_three c.args.op c.args.first.now c.args.second.now c.args.third.now (omega arith) n.not-Eod-0 n.not-Fault-0 n.not-Eod-1 n.not-Fault-1
    n.not-Eod-2 n.not-Fault-2) c.row_of_three.ensures
