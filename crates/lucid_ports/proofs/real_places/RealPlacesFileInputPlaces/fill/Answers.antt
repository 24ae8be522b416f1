use Rattle.std.proofs.Common.{◌≡◌, ◌<◌, length, inr, refl, sym, ap, ◌∙◌, arith, le_refl, Ok, inl}
use Rattle.std.specs.Prelude.{IsErrOf}
use Rattle.lucid_ports.specs.declared.fault.PortFault.TheVariants.{Failed}
use Rattle.lucid_lists.proofs.Lists.{slice_get-set_other, slice_get-set_same}
use Rattle.std.proofs.lemmas.Option.{slice_get_read}
use Rattle.std.proofs.lemmas.List.{get_or-set_same}
use Rattle.lucid_ports.specs.RealPlacesView.{real_place}
use Rattle.lucid_ports.proofs.RealPlacesLemmas.{where_some, where_none, none_of, not_both, some_of, real_shown, real_same, real_front, real_end, asks_where_none}
use Rattle.lucid_ports.proofs.real_places.RealPlacesFileInputPlaces.fill.Goals as goal

pub returns : goal.returns
returns g c =
    let places = c.args.self.now.places in
    let of_file = g.O.File.Supply.contents in
    let of_input = g.O.Input.Supply.contents in
    let p = c.index_mut.result.now in
    let q = c.fill.new.self in
    let within : c.args.place < length places.items = omega (arith, places.ok.0) in
    let was = slice_get_read places.items _ c.args.place p refl within c.index_mut.ensures.value in
    let is = slice_get-set_same places.items c.args.place q within in
    let none_failed : IsErrOf (Ok c.as_slice.result) Failed → ⊥ = λ fails. cc in
    let here : c.index.result.now ≡ q = c.index.ensures ∙ get_or-set_same places.items c.args.place q c.index.result.now within in
    let shown : length q.window.bytes ≡ length c.as_slice.result.now = ap (λ s. length s.window.bytes) (sym here) ∙ ap length (sym c.as_slice.ensures.value) in
    let end = where_some c.fill.result _ c.if-is_none.ensures c.fill.ensures.end in (
      (
        refl,
        λ _. tt,
        (
          record {
            others = record {
              names = λ _. refl;
              asked = refl;
              others = λ k other. ap (real_place of_file of_input) (slice_get-set_other places.items c.args.place k q other);
              faults = le_refl _;
            };
            reached = refl;
            shown = real_shown of_file of_input _ _ p q _ was is c.fill.ensures.contents shown (where_some c.fill.result _ c.if-is_none.ensures c.fill.ensures.used);
            refused = tt;
            failed = λ fails. absurd (none_failed fails);
            counts_no_fault = inr refl;
            counts_late = c.late_after-self.ensures;
          },
          (
            refl,
            asks_where_none g.O.File.Supply.read_gives g.O.Input.Supply.read_gives g.O.Input.Preview.show_gives of_file of_input _ _ p q c.fill.result _ was is
                c.fill.ensures.once c.fill.ensures.unasked (some_of c.fill.result _ _ c.if-is_none.ensures shown) (λ _. refl),
          ),
        ),
      ),
      record {
        front = real_front of_file of_input _ p q c.index.result.now c.as_slice.result.now was here c.fill.ensures.contents c.as_slice.ensures.front;
        end = real_end of_file of_input _ p q c.index.result.now c.as_slice.result.now was here c.fill.ensures.contents c.as_slice.ensures.value end c.as_slice.ensures.front;
        after_borrow = tt;
      },
    )

pub returns-then-is_none : goal.returns-then-is_none
returns-then-is_none g c =
    let places = c.args.self.now.places in
    let of_file = g.O.File.Supply.contents in
    let of_input = g.O.Input.Supply.contents in
    let p = c.index_mut.result.now in
    let q = c.fill.new.self in
    let within : c.args.place < length places.items = omega (arith, places.ok.0) in
    let was = slice_get_read places.items _ c.args.place p refl within c.index_mut.ensures.value in
    let is = slice_get-set_same places.items c.args.place q within in
    let same = where_none c.fill.result _ c.if-is_none.ensures c.fill.ensures.same in (
      (
        refl,
        λ _. tt,
        (
          record {
            others = record {
              names = λ _. refl;
              asked = refl;
              others = λ k other. ap (real_place of_file of_input) (slice_get-set_other places.items c.args.place k q other);
              faults = omega (arith, c.saturating_add-self.ensures);
            };
            reached = refl;
            shown = tt;
            refused = real_same of_file of_input _ _ p q was is c.fill.ensures.contents same;
            failed = λ _ low. omega (arith, c.saturating_add-self.ensures, low);
            counts_no_fault = inl refl;
            counts_late = c.late_after-self.ensures;
          },
          (
            c.saturating_add-self.ensures,
            asks_where_none g.O.File.Supply.read_gives g.O.Input.Supply.read_gives g.O.Input.Preview.show_gives of_file of_input _ _ p q c.fill.result _ was is
                c.fill.ensures.once c.fill.ensures.unasked (none_of c.fill.result _ c.if-is_none.ensures) (λ some. not_both c.fill.result _ c.if-is_none.ensures some),
          ),
        ),
      ),
      record { front = tt; end = tt; after_borrow = tt },
    )
