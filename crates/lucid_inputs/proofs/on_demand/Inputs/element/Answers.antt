use Rattle.lucid_inputs.proofs.Common.{refl, rules, stream_at}
use Rattle.lucid_inputs.proofs.OverlongLemmas.{element_told}
use Rattle.lucid_inputs.proofs.on_demand.Inputs.element.Goals as goal

pub returns : goal.returns
returns g c =
    let reads = c.in_ok-read_on.ensures.reads in (
      (refl, λ _. tt, record { reads = reads; element = c.value.ensures; too_large = tt; ready = c.in_ok-read_on.ensures.ready }),
      record {
        after = tt;
        element = element_told c.args.index _ (stream_at c.args.self.now c.args.stream) (stream_at c.read_on.new.self c.args.stream)
            (g.P.Places.world c.args.places.now)
            (g.P.Places.world c.read_on.new.places) reads.asked c.value.ensures;
        too_large = tt;
        not_too_large = c.in_ok-read_on.ensures.not_too_large;
        failed = λ e. cc;
        counts_no_fault = search rules;
        late = c.in_ok-read_on.ensures.late;
      },
    )
