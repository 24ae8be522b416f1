use Rattle.std.proofs.Common.{ap, map, length, ◌∙◌, arith}
use Rattle.lucid_ports.specs.MemoryView.{memory_world}
use Rattle.lucid_inputs.specs.Streams.{fresh_stream}
use Rattle.lucid_inputs.proofs.InputsLemmas.{fresh_stays}
use Rattle.lucid_test_engine.proofs.Fresh.{both_askable}
use Rattle.lucid_test_engine.proofs.trials.setup.two_streams.Goals as goal

pub returns-clause-count : goal.returns-clause-count
returns-clause-count c = ap length (c.in_ok-inputs.ensures.streams ∙ ap (map fresh_stream) c.in_ok-numbers.ensures.items)

pub returns-clause-askable : goal.returns-clause-askable
returns-clause-askable c =
    let same = c.in_ok-inputs.ensures.streams ∙ ap (map fresh_stream) c.in_ok-numbers.ensures.items in
    let stays = c.in_ok-b.ensures.others.others c.in_ok-a.a (omega (arith, c.in_ok-a.ensures.number, c.in_ok-a.ensures.added)) in
    both_askable c.fresh_fits.ensures (memory_world c.reach-2.new.self) _ _ _ _ _ same
    (omega (arith, c.in_ok-a.ensures.number, c.in_ok-a.ensures.added, c.in_ok-b.ensures.added))
    (omega (arith, c.in_ok-b.ensures.number, c.in_ok-b.ensures.added))
    (fresh_stays _ _ _ stays c.in_ok-a.ensures.fresh)
    c.in_ok-b.ensures.fresh
