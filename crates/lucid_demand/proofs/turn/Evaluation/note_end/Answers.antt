use Rattle.lucid_demand.proofs.Common.{refl}
use Rattle.lucid_demand.proofs.Beginning.{noted_asks}
use Rattle.lucid_demand.proofs.turn.Evaluation.note_end.Goals as goal

pub returns-then-index-eq0-clause-asks : goal.returns-then-index-eq0-clause-asks
returns-then-index-eq0-clause-asks g c = λ i task act.
    noted_asks i c.args.self.now c.note_here.new.self c.args.slot c.args.index task (c.note_here.ensures.owns i act.step) c.note_here.ensures.only
    c.note_here.ensures.rows act

pub returns-else-index-eq0-clause-asks : goal.returns-else-index-eq0-clause-asks
returns-else-index-eq0-clause-asks g c = λ i task act.
    noted_asks i c.args.self.now c.args.self.now c.args.slot c.args.index task act.step.waits.going.owns refl refl act
