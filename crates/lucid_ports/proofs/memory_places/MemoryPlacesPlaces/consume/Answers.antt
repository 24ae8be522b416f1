use Rattle.lucid_ports.proofs.Common.{◌<◌, length, refl, ap, le_refl, arith, slice_get_read, slice_get-set_same, slice_get-set_other, memory_place}
use Rattle.lucid_ports.proofs.MemoryLemmas.{place_consumed}
use Rattle.lucid_ports.proofs.memory_places.MemoryPlacesPlaces.consume.Goals as goal

pub returns-clause-consumed : goal.returns-clause-consumed
returns-clause-consumed c =
    let places = c.args.self.now.places in
    let within : c.args.place < length places.items = omega (arith, places.ok.0) in
    let was = slice_get_read places.items _ c.args.place c.index.result.now refl within c.index.ensures in
    let is = slice_get-set_same places.items c.args.place _ within in
    place_consumed _ _ _ _ _ _ was is refl c.after.ensures.position c.after.ensures.shown c.after.ensures.used

pub returns-clause-others : goal.returns-clause-others
returns-clause-others c = record {
  names = λ _. refl;
  asked = refl;
  others = λ k other. ap (memory_place c.args.self.now.files.items) (slice_get-set_other c.args.self.now.places.items c.args.place k _ other);
  faults = le_refl _;
}
