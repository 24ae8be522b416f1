use Rattle.std.proofs.Common.{ap, sym, subst, ◌∙◌}
use Rattle.lucid_ports.specs.MemoryView.{memory_world}
use Rattle.lucid_demand_steps.specs.Engine.{AreAskable}
use Rattle.lucid_test_engine.proofs.trials.over_files.OverFiles.make.Goals as goal

pub invariant_of-result : goal.invariant_of-result
invariant_of-result g c = (
  subst (λ its. AreAskable its (memory_world c.in_ok-program.field-0.places)) (sym (ap (λ e. e.streams) c.in_ok-engine.ensures.made))
      c.in_ok-program.ensures.askable,
  c.in_ok-program.ensures.reached ∙ sym c.streams-count.ensures.value,
)
