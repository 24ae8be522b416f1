use Rattle.std.proofs.Common.{ap, inl, refl, arith, le_refl, rules}
use Rattle.std.specs.String.{string_bytes}
use Rattle.lucid_ports.specs.RealPlacesView.{real_place}
use Rattle.lucid_ports.proofs.WorldLemmas.{asked_next, place_added}
use Rattle.lucid_ports.proofs.real_places.RealPlacesFileInputPlaces.reach.Goals as goal

pub returns-clause-others : goal.returns-clause-others
returns-clause-others g c =
    let places = c.args.self.now.places in
    record {
      asked = inl (asked_next string_bytes c.args.self.now.names.items c.push.new.self.items c.in_ok-from_str.field-0 c.args.name.now c.in_ok-push.ensures.items (search rules));
      names = λ _. refl;
      others = λ k other. ap (real_place g.O.File.Supply.contents g.O.Input.Supply.contents) (place_added places.items c.push-2.new.self.items _ k c.in_ok-push-2.ensures.items
          (λ e. other (omega (arith, e, places.ok.0))));
      faults = le_refl _;
    }
