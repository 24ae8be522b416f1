use Rattle.lucid_demand.proofs.Common.{None, refl}
use Rattle.lucid_demand.proofs.NamedBodies.{row_asked}
use Rattle.lucid_demand.proofs.turn.Evaluation.ask_row.Goals as goal

pub returns-clause-asks : goal.returns-clause-asks
returns-clause-asks g c = λ i x may.
    row_asked _ c.args.self.now c.self.view_is i.demand i.world c.args.part x c.args.task c.args.key may c.ask.new.self c.in_ok-ask.field-0
    c.in_ok-ask.ensures.newest c.in_ok-ask.ensures.rows None refl
