use Rattle.std.proofs.Common.{◌≡◌, sym, subst}
use Rattle.lucid_ports.specs.MemoryView.{memory_world}
use Rattle.lucid_demand_steps.specs.Engine.{EngineView, AreAskable}
use Rattle.lucid_test_engine.proofs.trials.over_files.OverFiles.clear.Goals as goal

pub invariant_of-self : goal.invariant_of-self
invariant_of-self g c =
    subst (λ (e : EngineView). AreAskable e.streams (memory_world c.self.inside.places) × ((memory_world c.self.inside.places).reached ≡ c.self.inside.count))
    (sym c.clear.ensures.cleared) c.self.invariant
