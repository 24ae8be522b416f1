use Rattle.std.proofs.Common.{ap, map, length, ◌∙◌, arith}
use Rattle.lucid_ports.specs.MemoryView.{memory_world}
use Rattle.lucid_inputs.specs.Streams.{fresh_stream}
use Rattle.lucid_test_engine.proofs.Fresh.{one_askable}
use Rattle.lucid_test_engine.proofs.trials.setup.one_stream.Goals as goal

pub returns-clause-count : goal.returns-clause-count
returns-clause-count c = ap length (c.in_ok-inputs.ensures.streams ∙ ap (map fresh_stream) c.in_ok-numbers.ensures.items)

pub returns-clause-askable : goal.returns-clause-askable
returns-clause-askable c =
    let same = c.in_ok-inputs.ensures.streams ∙ ap (map fresh_stream) c.in_ok-numbers.ensures.items in
    one_askable c.fresh_fits.ensures (memory_world c.reach.new.self) _ _ _ same (omega (arith, c.in_ok-place.ensures.number, c.in_ok-place.ensures.added))
    c.in_ok-place.ensures.fresh
