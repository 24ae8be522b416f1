use Rattle.lucid_demand.proofs.Common.{refl}
use Rattle.lucid_demand.proofs.LookingOn.{looked, looked_ready, next_cursor}
use Rattle.lucid_demand.proofs.turn.Evaluation.move_cursor.Goals as goal

pub returns-clause-task : goal.returns-clause-task
returns-clause-task g c =
    looked_ready c.args.self.now _ _ c.discard.new.self c.discard-2.new.self c.args.slot _ c.self.view_is refl c.discard.ensures c.discard-2.ensures
    c.set_cursor.ensures c.requires.ready

pub returns-clause-steps : goal.returns-clause-steps
returns-clause-steps g c = λ i act.
    looked i c.args.self.now _ c.set_cursor.new.self c.discard.new.self c.discard-2.new.self c.args.slot c.args.seen c.cursor-cursor.result _ c.self.view_is
    c.cursor-cursor.ensures
    (next_cursor c.cursor-cursor.result c.args.seen c.from.result c.from.ensures) c.discard.ensures c.discard-2.ensures c.set_cursor.ensures act
    (looked_ready c.args.self.now _ _ c.discard.new.self c.discard-2.new.self c.args.slot _ c.self.view_is refl c.discard.ensures c.discard-2.ensures
    c.set_cursor.ensures c.requires.ready)
