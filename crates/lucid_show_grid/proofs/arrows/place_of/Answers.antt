use Rattle.std.proofs.Common.{◌≡◌, length, refl, ap, sym, ◌∙◌}
use Rattle.std.specs.Prelude.{Option, Some, None, slice_get}
use Rattle.std.specs.Option.{option_map}
use Rattle.std.proofs.lemmas.Option.{slice_get_past, slice_get_read}
use Rattle.lucid_show_grid.specs.declared.places.Placed.{Placed}
use Rattle.lucid_show_grid.proofs.Loops.{place_found}
use Rattle.lucid_show_grid.proofs.arrows.place_of.Goals as goal

pub returns-in-Some : goal.returns-in-Some
returns-in-Some c =
    let found : slice_get c.args.values.now c.args.number ≡ Some c.in-Some.placed.now =
    slice_get_read c.args.values.now (length c.args.values.now) c.args.number c.in-Some.placed.now refl c.in-Some.ensures.lookup.3.0 c.in-Some.ensures.lookup.1 in
    sym (place_found c.args.values.now c.args.number ∙ ap (λ (p : Option Placed). option_map (λ (q : Placed). q.place) p) found)

pub returns-in-None : goal.returns-in-None
returns-in-None c =
    let found : slice_get c.args.values.now c.args.number ≡ None = slice_get_past c.args.values.now c.args.number c.in-None.ensures.lookup.3 in
    sym (place_found c.args.values.now c.args.number ∙ ap (λ (p : Option Placed). option_map (λ (q : Placed). q.place) p) found)
