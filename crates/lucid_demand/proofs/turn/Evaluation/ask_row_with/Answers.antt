use Rattle.lucid_demand.proofs.ToldTasks.{has_first}
use Rattle.lucid_demand.proofs.turn.Evaluation.ask_row_with.Goals as goal

pub returns-clause-rows : goal.returns-clause-rows
returns-clause-rows g c =
    has_first _ c.args.self.now c.self.view_is c.ask.new.self c.give.new.self c.args.part c.in_ok-slot.slot c.args.task c.args.key c.args.first
    c.in_ok-slot.ensures.newest c.in_ok-slot.ensures.rows c.give.ensures.rows
