-- Where cells are drawn, and arrows to them.
use Rattle.lucid_show_drawing.proofs.Common.{◌≡◌, ℕ, ◌+◌, ◌<◌, Bool, true, false, ◌||◌, List, [], ◌∷◌, ◌++◌, length, get_or, take, drop, Option, Some, None, refl, sym, ap, subst, ◌∙◌, arith, MatchOption, slice_get, if◌then◌else◌, take_more, drop_more, append_assoc, append-nil, ◌≤◌}
use Rattle.std.specs.Option.{option_map, option_to_list}
use Rattle.std.proofs.lemmas.List.{at_drop_more, drop_all, get_or-map, length-map}
use Rattle.std.proofs.lemmas.List.Folds.{list_any-append}
use Rattle.std.proofs.lemmas.Option.{slice_get-get_or}
use Rattle.std.proofs.lemmas.Bool.{and_parts, eq-eqb, eqb-true}
use Rattle.std.proofs.lemmas.Bool.Decides.{eqb_tells}
use Rattle.std.specs.Prelude.{◌==◌, ◌&&◌}
use Rattle.lucid_show_drawing.proofs.Common.{inl, inr}
use Rattle.lucid_cert_rules.specs.declared.cell.Cell.{Cell}
use Rattle.lucid_cert_rules.specs.declared.cell.Cell.TheVariants.{Named, Element}
use Rattle.lucid_cert_rules.specs.contracts.cell.CellPartialEq.TheImpl.{eq-value}
use Rattle.lucid_cert_rules.specs.Cells.{is_among, same_cell}
use Rattle.lucid_show_grid.specs.declared.grid.Arrow.{Arrow}
use Rattle.lucid_show_outline.specs.Views.{View}
use Rattle.lucid_show_drawing.specs.Arrows.{AreArrows, GoTo, cells_of, left_out, no_more, nowhere, one, there}
use Rattle.lucid_show_drawing.specs.declared.asked.Asked.{Asked}
use Rattle.lucid_show_drawing.specs.Looked.{looked_at}
use Rattle.lucid_show_drawing.specs.Orders.{ArePlaces, PlacesSoFar, arrow_by, arrows_by}

-- the derived test of cells, both ways
pub one_cell : (c d : Cell) → eq-value.it c d ≡ true → c ≡ d
one_cell (Named i) (Named j) h = ap Named (eqb-true i j h)
one_cell (Named i) (Element l u) h = absurd (cc)
one_cell (Element k t) (Named j) h = absurd (cc)
one_cell (Element k t) (Element l u) h =
    let both = and_parts (k == l) (t == u) h in ap (λ q. Element q t) (eqb-true k l both.0) ∙ ap (λ q. Element l q) (eqb-true t u both.1)

swapped : (i j : ℕ) → (j == i) ≡ (i == j)
swapped i j = elim (eqb_tells i j) [
  | inl same ↦ eq-eqb j i (sym same.1) ∙ sym same.0
  | inr other ↦ elim (eqb_tells j i) [ inl back ↦ absurd (other.1 (sym back.1)) | inr back ↦ back.0 ∙ sym other.0 ]
]

pub no_cell : (c d : Cell) → eq-value.it c d ≡ false → same_cell d c ≡ false
no_cell (Named i) (Named j) h = swapped i j ∙ h
no_cell (Named i) (Element l u) h = refl
no_cell (Element k t) (Named j) h = refl
no_cell (Element k t) (Element l u) h = ap (λ b. b && (u == t)) (swapped k l) ∙ ap (λ b. (k == l) && b) (swapped t u) ∙ h

pub same_itself : (c : Cell) → same_cell c c ≡ true
same_itself (Named i) = eq-eqb i i refl
same_itself (Element k t) = ap (λ b. b && (t == t)) (eq-eqb k k refl) ∙ eq-eqb t t refl

-- one cell more
or_false : (b : Bool) → (b || false) ≡ b
or_false true = refl
or_false false = refl

pub is_among-push : (cs : List Cell) (c d : Cell) → is_among (cs ++ d ∷ []) c ≡ (is_among cs c || same_cell c d)
is_among-push cs c d = list_any-append (same_cell c) cs (d ∷ []) ∙ ap (λ b. is_among cs c || b) (or_false (same_cell c d))

place_by : (b : Bool) (cells : List Cell) (i : ℕ) (d : Cell) → i < length cells → (c : Cell) → (old new : Option ℕ) → eq-value.it (get_or cells i d) c ≡ b
    → new ≡ (if b then Some i else old) → MatchOption old (is_among (take i cells) c ≡ false) (λ k. slice_get cells k ≡ Some c)
    → MatchOption new (is_among (take (i + 1) cells) c ≡ false) (λ k. slice_get cells k ≡ Some c)
place_by true cells i d h c old new e is so_far =
    let P : Option ℕ → Type 0 = λ p. MatchOption p (is_among (take (i + 1) cells) c ≡ false) (λ k. slice_get cells k ≡ Some c) in
    subst P (sym is) (slice_get-get_or cells i d h ∙ ap (λ (q : Cell). Some q) (one_cell (get_or cells i d) c e))
place_by false cells i d h c None new e is so_far =
    let P : Option ℕ → Type 0 = λ p. MatchOption p (is_among (take (i + 1) cells) c ≡ false) (λ k. slice_get cells k ≡ Some c) in
    subst P (sym is) (ap (λ (cs : List Cell). is_among cs c) (take_more cells i d h) ∙ is_among-push (take i cells) c (get_or cells i d)
    ∙ ap (λ b. b || same_cell c (get_or cells i d)) so_far ∙ no_cell (get_or cells i d) c e)
place_by false cells i d h c (Some k) new e is so_far =
    let P : Option ℕ → Type 0 = λ p. MatchOption p (is_among (take (i + 1) cells) c ≡ false) (λ k. slice_get cells k ≡ Some c) in
    subst P (sym is) so_far

pub place_more : (cells : List Cell) (i : ℕ) (d : Cell) → i < length cells → (old new : Cell → Option ℕ)
    → ((c : Cell) → new c ≡ (if eq-value.it (get_or cells i d) c then Some i else old c)) → PlacesSoFar cells i old → PlacesSoFar cells (i + 1) new
place_more cells i d h old new is so_far c = place_by (eq-value.it (get_or cells i d) c) cells i d h c (old c) (new c) refl (is c) (so_far c)

-- the same of the cells of values
pub place_one : (shown : List Asked) (i : ℕ) (d : Asked) → i < length shown → (old new : Cell → Option ℕ)
    → ((c : Cell) → new c ≡ (if eq-value.it (get_or shown i d).cell c then Some i else old c)) → PlacesSoFar (cells_of shown) i old
    → PlacesSoFar (cells_of shown) (i + 1) new
place_one shown i d h old new is so_far =
    let long : i < length (cells_of shown) = omega (arith, length-map shown (λ (a : Asked). a.cell)) in
    place_more (cells_of shown) i d.cell long old new
    (λ c. is c ∙ ap (λ (q : Cell). if eq-value.it q c then Some i else old c) (sym (get_or-map (λ (a : Asked). a.cell) shown i d d.cell h))) so_far

-- arrows by places go to the cells
go_on : (drawn : List Cell) (from : ℕ) (c : Cell) (cs : List Cell) (more : List Arrow) (p : Option ℕ)
    → MatchOption p (is_among drawn c ≡ false) (λ i. slice_get drawn i ≡ Some c) → GoTo drawn from cs more
    → GoTo drawn from (c ∷ cs) (option_to_list (option_map (arrow_by from) p) ++ more)
go_on drawn from c cs more None h rest = left_out h rest
go_on drawn from c cs more (Some k) h rest = there k h rest

pub goes : (drawn : List Cell) (place : Cell → Option ℕ) → ArePlaces drawn place → (from : ℕ) (cs : List Cell) → GoTo drawn from cs (arrows_by place from cs)
goes drawn place h from [] = nowhere
goes drawn place h from (c ∷ cs) = go_on drawn from c cs (arrows_by place from cs) (place c) (h c) (goes drawn place h from cs)

pub arrows_by_more : (place : Cell → Option ℕ) (from : ℕ) (cs : List Cell) (i : ℕ) (d : Cell) → i < length cs
    → arrows_by place from (drop i cs) ≡ option_to_list (option_map (arrow_by from) (place (get_or cs i d))) ++ arrows_by place from (drop (i + 1) cs)
arrows_by_more place from cs i d h = at_drop_more (λ ds. arrows_by place from ds) cs i d h

-- arrows from one cell more
pub arrows_one : (v : View) (shown : List Asked) (i : ℕ) (d : Asked) → i < length shown → (these old new : List Arrow)
    → GoTo (cells_of shown) i (looked_at v (get_or shown i d).cell) these
    → new ≡ old ++ these
    → ((more : List Arrow) → AreArrows v (cells_of shown) i (drop i (cells_of shown)) more → AreArrows v (cells_of shown) 0 (cells_of shown) (old ++ more))
    → (more : List Arrow) → AreArrows v (cells_of shown) (i + 1) (drop (i + 1) (cells_of shown)) more
    → AreArrows v (cells_of shown) 0 (cells_of shown) (new ++ more)
arrows_one v shown i d h these old new go added so_far more later =
    let cells : List Cell = cells_of shown in
    let long : i < length (cells_of shown) = omega (arith, length-map shown (λ (a : Asked). a.cell)) in
    let front : drop i (cells_of shown) ≡ (get_or shown i d).cell ∷ drop (i + 1) (cells_of shown) =
    drop_more (cells_of shown) i d.cell long
    ∙ ap (λ (c : Cell). c ∷ drop (i + 1) (cells_of shown)) (get_or-map (λ (a : Asked). a.cell) shown i d d.cell h) in
    subst (λ (z : List Arrow). AreArrows v (cells_of shown) 0 (cells_of shown) z) (sym (ap (λ (z : List Arrow). z ++ more) added ∙ append_assoc old these more))
    (so_far (these ++ more) (subst (λ (z : List Cell). AreArrows v (cells_of shown) i z (these ++ more)) (sym front) (one go later)))

pub arrows_all : (v : View) (shown : List Asked) (i : ℕ) → length shown ≤ i → (arrows : List Arrow)
    → ((more : List Arrow) → AreArrows v (cells_of shown) i (drop i (cells_of shown)) more → AreArrows v (cells_of shown) 0 (cells_of shown) (arrows ++ more))
    → AreArrows v (cells_of shown) 0 (cells_of shown) arrows
arrows_all v shown i h arrows so_far =
    let long : length (cells_of shown) ≤ i = omega (arith, length-map shown (λ (a : Asked). a.cell)) in
    subst (λ (z : List Arrow). AreArrows v (cells_of shown) 0 (cells_of shown) z) (append-nil arrows)
    (so_far [] (subst (λ (z : List Cell). AreArrows v (cells_of shown) i z []) (sym (drop_all i (cells_of shown) long)) no_more))
