-- The operator takes its operand where the test says so.
use Rattle.lucid_parse.proofs.Common.{◌≡◌, true, takes}
use Rattle.lucid_parse.proofs.Complete.{shift-takes}
use Rattle.lucid_parse.proofs.machine.Machine.shift_to.Goals as goal

pub returns-then-may_take : goal.returns-then-may_take
returns-then-may_take g c =
    let can : takes c.args.op c.loop-allowed.operand c.loop-allowed.place ≡ true = cc in
    let e = shift-takes c.args.op c.args.at c.loop-allowed.operand c.loop-allowed.place c.loop-allowed.self.frames c.loop-allowed.self.out.items can in
    cc (e, c.loop-allowed.invariant, c.right_level-allowed.ensures, c.in_ok-push.ensures)
