use Rattle.lucid_ports.proofs.Common.{◌<◌, length, Some, option_map, refl, sym, ap, ◌∙◌, arith, slice_get_read, slice_get-set_same, slice_get-set_other, EndlessPlace, moved, spot_of}
use Rattle.lucid_ports.proofs.EndlessLemmas.{spot_of-after}
use Rattle.lucid_ports.proofs.endless.EndlessPlaces.consume.Goals as goal

pub returns-clause-gives : goal.returns-clause-gives
returns-clause-gives c =
    let files = c.args.self.now.sources.files.items in
    let piece = c.args.self.now.sources.piece.items in
    let places = c.args.self.now.places in
    let p = c.index.result.now in
    let within : c.args.place < length places.items = omega (arith, places.ok.0) in
    let was = slice_get_read places.items _ c.args.place p refl within c.index.ensures in
    let q : EndlessPlace = record { file = p.file; mark = c.after.result } in
    let is = slice_get-set_same places.items c.args.place q within in
    record {
      moves = ap (option_map (spot_of files piece)) is
          ∙ ap Some (spot_of-after files piece p q c.args.n refl c.after.ensures.position)
          ∙ ap (λ o. option_map (moved piece c.args.n) (option_map (spot_of files piece) o)) (sym was);
      others = λ k other. ap (option_map (spot_of files piece)) (slice_get-set_other places.items c.args.place k q other);
      sources = record { files = refl; piece = refl };
    }
