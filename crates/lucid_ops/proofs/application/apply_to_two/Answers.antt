use Rattle.lucid_ops.proofs.Common.{arith}
use Rattle.lucid_ops.proofs.Rule.{row_decides_two}
use Rattle.lucid_ops.proofs.application.apply_to_two.Goals as goal

pub returns-in_default : goal.returns-in_default
returns-in_default c =
    let n = c.in_default in
    rw (row_decides_two c.args.op c.args.left.now c.args.right.now (omega arith) n.not-Eod-0 n.not-Fault-0 n.not-Eod-1 n.not-Fault-1) c.row_of_two.ensures
