use Rattle.lucid_inputs.proofs.Common.{◌<◌, length, refl, slice_set, sym, subst, arith, length-map, slice_get_read, AllPairs, slice_get-set_same, stream_of}
use Rattle.std.specs.Prelude.{◌≢◌}
use Rattle.lucid_inputs.proofs.InputsLemmas.{all_within, at_is, not_too_large_at, places-set, reads_stream, ready_set, too_large_at}
use Rattle.lucid_inputs.proofs.on_demand.Inputs.read_on.Goals as goal

pub invariant_of-self : goal.invariant_of-self
invariant_of-self g c =
    let items = c.args.self.now.streams.items in
    let within : c.args.stream < length items = omega (arith, c.requires.stream, length-map items stream_of) in
    let was = slice_get_read items _ c.args.stream c.index_mut.result.now refl within c.index_mut.ensures.value in
    record {
      ends = c.args.self.now.ends;
      apart = subst (AllPairs (λ a b. a ≢ b)) (sym (places-set items c.args.stream c.index_mut.result.now c.demand.new.self was c.demand.ensures.on.place))
          c.args.self.now.apart;
      within = all_within items c.args.stream c.demand.new.self c.args.self.now.most within c.args.self.now.within c.demand.ensures.within;
    }

pub returns-clause-ready : goal.returns-clause-ready
returns-clause-ready g c =
    let items = c.args.self.now.streams.items in
    let within : c.args.stream < length items = omega (arith, c.requires.stream, length-map items stream_of) in
    ready_set items c.args.stream c.args.index c.demand.new.self c.demand.result within c.demand.ensures.ready

pub returns-clause-reads : goal.returns-clause-reads
returns-clause-reads g c =
    let items = c.args.self.now.streams.items in
    let within : c.args.stream < length items = omega (arith, c.requires.stream, length-map items stream_of) in
    let was = slice_get_read items _ c.args.stream c.index_mut.result.now refl within c.index_mut.ensures.value in
    reads_stream c.args.self.now _ c.args.stream c.args.index c.index_mut.result.now c.demand.new.self _ _ within was refl refl c.demand.ensures.on

pub returns-clause-too_large : goal.returns-clause-too_large
returns-clause-too_large g c =
    let items = c.args.self.now.streams.items in
    let within : c.args.stream < length items = omega (arith, c.requires.stream, length-map items stream_of) in
    let was = slice_get_read items _ c.args.stream c.index_mut.result.now refl within c.index_mut.ensures.value in
    let is = slice_get-set_same items c.args.stream c.demand.new.self within in
    too_large_at _ _ _ _ _ _ _ _ (g.P.Places.world c.args.places.now) (at_is items _ _ was) (at_is (slice_set items c.args.stream c.demand.new.self) _ _ is)
    c.demand.ensures.too_large

pub returns-clause-not_too_large : goal.returns-clause-not_too_large
returns-clause-not_too_large g c =
    let items = c.args.self.now.streams.items in
    let within : c.args.stream < length items = omega (arith, c.requires.stream, length-map items stream_of) in
    let was = slice_get_read items _ c.args.stream c.index_mut.result.now refl within c.index_mut.ensures.value in
    not_too_large_at _ _ _ _ _ (g.P.Places.world c.args.places.now) (at_is items _ _ was) c.demand.ensures.not_too_large
