use Rattle.lucid_ports.proofs.Common.{◌≡◌, ◌<◌, length, option_map, IfSome, inr, refl, sym, ap, subst, ◌∙◌, arith, le_refl, slice_get_read, slice_get-set_same, slice_get-set_other, EndlessPlace, position_in, spot_of, endless_place, bytes_at}
use Rattle.lucid_lists.proofs.Lists.{map-set_same}
use Rattle.lucid_ports.specs.Endless.{next_bytes}
use Rattle.lucid_ports.proofs.EndlessLemmas.{spot_of-turned, endless_shown, untold}
use Rattle.lucid_ports.proofs.endless.EndlessPlaces.fill.Goals as goal

pub returns : goal.returns
returns c =
    let files = c.args.self.now.sources.files.items in
    let piece = c.args.self.now.sources.piece.items in
    let places = c.args.self.now.places in
    let p = c.index.result.now in
    let within : c.args.place < length places.items = omega (arith, places.ok.0) in
    let was = slice_get_read places.items _ c.args.place p refl within c.index.ensures in
    let q : EndlessPlace = record { file = p.file; mark = c.showing.result } in
    let is = slice_get-set_same places.items c.args.place q within in
    let from : c.position_in-from.result ≡ position_in (length piece) p.file p.mark.position =
    c.position_in-from.ensures ∙ ap (position_in (length piece) p.file) c.position.ensures in
    let here : next_bytes piece (spot_of files piece p) ≡ c.next_from.result.now =
    ap (λ k. next_bytes piece (record { source = option_map (bytes_at files) p.file; position = k })) (sym from) ∙ sym c.next_from.ensures.value in
    let same = spot_of-turned files piece p q refl (c.showing.ensures.position ∙ from) in
    let long : length c.next_from-shown.result.now ≡ length c.next_from.result.now =
    ap length (c.next_from-shown.ensures.value ∙ sym c.next_from.ensures.value) in (
      (
        refl,
        λ _. tt,
        (
          record {
            others = record {
              names = λ _. refl;
              asked = refl;
              others = λ k other. ap endless_place (slice_get-set_other places.items c.args.place k q other);
              faults = le_refl _;
            };
            reached = refl;
            shown = endless_shown _ _ p q _ was is (c.showing.ensures.shown ∙ long) c.showing.ensures.used;
            refused = tt;
            failed = λ fails. cc;
            counts_no_fault = inr refl;
            counts_late = (λ some low. omega (arith, some), λ good. refl);
          },
          record {
            piece = subst (λ o. IfSome (option_map (spot_of files piece) o) (λ spot. c.next_from.result.now ≡ next_bytes piece spot)) (sym was) (sym here);
            stays = λ k. map-set_same (spot_of files piece) places.items c.args.place k q p was same;
            sources = record { files = refl; piece = refl };
          },
        ),
      ),
      record { front = untold _ _; end = untold _ _; after_borrow = tt },
    )
