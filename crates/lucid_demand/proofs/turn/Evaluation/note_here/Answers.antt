use Rattle.lucid_demand.proofs.Common.{sym}
use Rattle.lucid_demand.proofs.SearchesBegin.{noted_right}
use Rattle.lucid_demand.proofs.turn.Evaluation.note_here.Goals as goal

pub returns-in-Some-clause-owns : goal.returns-in-Some-clause-owns
returns-in-Some-clause-owns g c = λ i step.
    noted_right c.args.self.now _ c.args.slot c.task-task.result c.node.result c.in-Some.search c.self.view_is c.task-task.ensures c.node.ensures.meaning
    (sym c.in-Some.ensures) i step c.cursor.result c.cursor.ensures c.note.new.positions c.note.ensures
