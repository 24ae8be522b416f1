use Rattle.lucid_demand.proofs.Common.{ap}
use Rattle.lucid_demand_steps.proofs.Reading.{inputs_apart}
use Rattle.lucid_demand_steps.proofs.Nothing.{nothing_is_sound}
use Rattle.lucid_demand.proofs.engine.Engine.make.Goals as goal

pub invariant_of-result : goal.invariant_of-result
invariant_of-result g c = (
  nothing_is_sound _ (ap (λ w. w.entries) c.make-3.ensures) (ap (λ n. n.sites) c.make-4.ensures) c.make.ensures.one_for_one c.requires.streams
      (inputs_apart c.places_differ.ensures c.args.inputs) c.table.ensures.in_range c.table.ensures.inputs_differ,
  c.make-2.ensures,
)

pub returns-clause-sound : goal.returns-clause-sound
returns-clause-sound g c =
    nothing_is_sound _ (ap (λ w. w.entries) c.make-3.ensures) (ap (λ n. n.sites) c.make-4.ensures) c.make.ensures.one_for_one c.requires.streams
    (inputs_apart c.places_differ.ensures c.args.inputs) c.table.ensures.in_range c.table.ensures.inputs_differ
