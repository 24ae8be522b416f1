use Rattle.std.proofs.Common.{ap, map, length, ◌∙◌}
use Rattle.lucid_ports.specs.MemoryView.{memory_world}
use Rattle.lucid_inputs.specs.Streams.{fresh_stream}
use Rattle.lucid_test_engine.proofs.Fresh.{none_askable}
use Rattle.lucid_test_engine.proofs.trials.setup.no_streams.Goals as goal

pub returns-clause-count : goal.returns-clause-count
returns-clause-count c = ap length (c.in_ok-inputs.ensures.streams ∙ ap (map fresh_stream) c.new-numbers.ensures.items)

pub returns-clause-askable : goal.returns-clause-askable
returns-clause-askable c = none_askable _ (memory_world c.args.places.now) (c.in_ok-inputs.ensures.streams ∙ ap (map fresh_stream) c.new-numbers.ensures.items)
