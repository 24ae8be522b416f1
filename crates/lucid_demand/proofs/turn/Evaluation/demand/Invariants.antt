use Rattle.lucid_demand.proofs.Common.{demand_of, cost, Begins}
use Rattle.std.proofs.Common.{◌≡◌}
use Rattle.std.specs.Prelude.{Ok}
use Rattle.lucid_ports.specs.Faults.{AsksNoneLate}
use Rattle.lucid_demand.proofs.Looping.{left}
use Rattle.lucid_demand.proofs.turn.Evaluation.demand.Given as goal

abbrev pub invariant-loop-answer : goal.invariant-loop-answer
invariant-loop-answer g l = Begins (demand_of l.fn.self.engine (g.P.Places.world l.fn.places) l.fn.time l.fn.space l.fn.limit) l.self
    (g.P.Places.world l.places) (Ok l.answer) × ((g.P.Places.world l.places).faults ≡ (g.P.Places.world l.fn.places).faults)
    × AsksNoneLate (g.P.Places.world l.fn.places) (g.P.Places.world l.places)

abbrev pub decreases-loop-answer : goal.decreases-loop-answer
decreases-loop-answer g l = left l.answer (cost (demand_of l.fn.self.engine (g.P.Places.world l.fn.places) l.fn.time l.fn.space l.fn.limit) l.self)
