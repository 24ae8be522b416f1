use Rattle.std.proofs.Common.{rules}
use Rattle.lucid_show_steps.proofs.Counted.{left_again}
use Rattle.lucid_show_steps.proofs.log.Log.leave_out.Goals as goal

pub returns-in_ok-push-in-Some-LeftOut-clause-counted : goal.returns-in_ok-push-in-Some-LeftOut-clause-counted
returns-in_ok-push-in-Some-LeftOut-clause-counted c =
    left_again c.args.self.now.events.items c.pop.new.self.items c.push.new.self.items c.in-Some-LeftOut.before c.args.count c.saturating_add-count.result
    (search rules) (search rules) (search rules)
