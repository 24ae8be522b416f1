use Rattle.std.proofs.Common.{ap, map, ◌∙◌, arith}
use Rattle.lucid_inputs.specs.Streams.{fresh_stream}
use Rattle.lucid_inputs.proofs.InputsLemmas.{fresh_askable}
use Rattle.lucid_test_outside.proofs.inputs.input_a.Goals as goal

pub returns : goal.returns
returns g c =
    let same = c.in_ok-inputs.ensures.streams ∙ ap (map fresh_stream) c.in_ok-numbers.ensures.items in
    fresh_askable _ _ _ _ same (omega (arith, c.in_ok-place.ensures.number, c.in_ok-place.ensures.added)) c.in_ok-place.ensures.fresh
