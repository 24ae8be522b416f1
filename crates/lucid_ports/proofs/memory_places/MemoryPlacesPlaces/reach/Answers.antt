use Rattle.std.proofs.Common.{◌≡◌, length, Some, ap, inl, refl, subst, arith, le_refl, rules}
use Rattle.std.specs.String.{string_bytes}
use Rattle.lucid_ports.specs.declared.memory_places.MemoryPlace.{MemoryPlace}
use Rattle.lucid_ports.specs.Files.{bytes_at, bytes_named}
use Rattle.lucid_ports.specs.MemoryView.{memory_place}
use Rattle.lucid_ports.proofs.MemoryLemmas.{place_fresh}
use Rattle.lucid_ports.proofs.WorldLemmas.{asked_next, place_added, place_reached}
use Rattle.lucid_ports.proofs.memory_places.MemoryPlacesPlaces.reach.Goals as goal

pub returns-clause-others : goal.returns-clause-others
returns-clause-others c =
    let places = c.args.self.now.places in
    record {
      asked = inl (asked_next string_bytes c.args.self.now.names.items c.push.new.self.items c.in_ok-from_str.field-0 c.args.name.now c.in_ok-push.ensures.items (search rules));
      names = λ _. refl;
      others = λ k other. ap (memory_place c.args.self.now.files.items) (place_added places.items c.push-2.new.self.items _ k c.in_ok-push-2.ensures.items
          (λ e. other (omega (arith, e, places.ok.0))));
      faults = le_refl _;
    }

pub returns-clause-fresh : goal.returns-clause-fresh
returns-clause-fresh c =
    let places = c.args.self.now.places in
    let files = c.args.self.now.files.items in
    let p : MemoryPlace = record { file = c.in-Some.file; mark = c.start.result } in
    let last : c.len-number.result ≡ length places.items = omega (arith, c.len-number.ensures, places.ok.0) in
    let named = subst (λ fs. bytes_named fs c.args.name.now ≡ Some (bytes_at fs c.in-Some.file)) c.deref.ensures.value c.in-Some.ensures in
    place_fresh files c.args.name.now _ p (place_reached places.items c.push-2.new.self.items p c.len-number.result c.in_ok-push-2.ensures.items last) named
    c.start.ensures.position c.start.ensures.shown c.start.ensures.used
