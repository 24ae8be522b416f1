-- Arrows are of looks.
use Rattle.lucid_show_drawing.proofs.Common.{◌≡◌, ℕ, zero, suc, ◌+◌, Bool, true, false, ◌||◌, List, [], ◌∷◌, Some, inl, inr, refl, sym, ap, subst, ◌∙◌, arith, slice_get}
use Rattle.std.proofs.lemmas.Option.{none-some, same_Some}
use Rattle.lucid_tree.specs.Members.{In}
use Rattle.lucid_tree.proofs.Members.{in_either, in_left, in_right}
use Rattle.lucid_cert_rules.specs.Cells.{is_among, same_cell}
use Rattle.lucid_show_outline.specs.Laws.{UsesAreEarlier}
use Rattle.lucid_cert_rules.specs.declared.cell.Cell.{Cell}
use Rattle.lucid_show_grid.specs.declared.grid.Arrow.{Arrow}
use Rattle.lucid_show_outline.specs.Views.{View}
use Rattle.lucid_show_drawing.specs.Arrows.{AreArrows, GoTo, cells_of, left_out, no_more, nowhere, one, there}
use Rattle.lucid_show_drawing.specs.Laws.{ArrowsAreLooks, IsOfLook, Looks}
use Rattle.lucid_show_drawing.proofs.LookedAt.{looks_told, told_looks}
use Rattle.lucid_show_drawing.proofs.Places.{same_itself}

sum_zero : (n : ℕ) → n + 0 ≡ n
sum_zero n = omega arith

sum_next : (n k : ℕ) → n + suc k ≡ (n + 1) + k
sum_next n k = omega arith

from_zero : (n : ℕ) → 0 + n ≡ n
from_zero n = omega arith

among_in : (cs : List Cell) (c : Cell) → In c cs → is_among cs c ≡ true
among_in [] c h = absurd h
among_in (d ∷ cs) c (inl e) = ap (λ b. b || is_among cs c) (ap (λ (x : Cell). same_cell c x) (sym e) ∙ same_itself c)
among_in (d ∷ cs) c (inr h) = ap (λ b. same_cell c d || b) (among_in cs c h) ∙ or_true (same_cell c d)
  where
    or_true : (b : Bool) → (b || true) ≡ true
    or_true true = refl
    or_true false = refl

module _ (drawn : List Cell) (i : ℕ) where
  goes_right : {cs : List Cell} {these : List Arrow} → GoTo drawn i cs these → (a : Arrow) → In a these
      → (a.from ≡ i) × ((d : Cell) × In d cs × (slice_get drawn a.to ≡ Some d))
  goes_right nowhere a h = absurd h
  goes_right (there {c = c} to at rest) a (inl e) =
      (ap (λ (x : Arrow). x.from) e, (c, inl refl, ap (λ (x : Arrow). slice_get drawn x.to) e ∙ at))
  goes_right (there to at rest) a (inr h) = let later = goes_right rest a h in (later.0, (later.1.0, inr later.1.1, later.1.2))
  goes_right (left_out absent rest) a h = let later = goes_right rest a h in (later.0, (later.1.0, inr later.1.1, later.1.2))

  -- an arrow from here to the cell
  abbrev Goes : Cell → List Arrow → Type 0
  Goes d these = (k : ℕ) × (slice_get drawn k ≡ Some d) × ((a : Arrow) × (a.from ≡ i) × (a.to ≡ k) × In a these)

  goes_whole : {cs : List Cell} {these : List Arrow} → GoTo drawn i cs these → (d : Cell) → In d cs → In d drawn → Goes d these
  goes_whole nowhere d h shown = absurd h
  goes_whole (there {c = c} to at rest) d (inl e) shown =
      (to, at ∙ ap (λ (x : Cell). Some x) (sym e), (record { from = i; to = to }, refl, refl, inl refl))
  goes_whole (there to at rest) d (inr h) shown =
      let later = goes_whole rest d h shown in (later.0, later.1, (later.2.0, later.2.1, later.2.2, inr later.2.3))
  goes_whole (left_out {c = c} absent rest) d (inl e) shown =
      let none : true ≡ false = sym (among_in drawn d shown) ∙ ap (λ (x : Cell). is_among drawn x) e ∙ absent in absurd (cc)
  goes_whole (left_out absent rest) d (inr h) shown = goes_whole rest d h shown

module _ (v : View) (drawn : List Cell) where
  of_looks : {i : ℕ} {cs : List Cell} {more : List Arrow} → AreArrows v drawn i cs more
      → ((k : ℕ) (c : Cell) → slice_get cs k ≡ Some c → slice_get drawn (i + k) ≡ Some c) → (a : Arrow) → In a more → IsOfLook v drawn a
  of_looks no_more stands a h = absurd h
  of_looks (one {i = i} {c = c} {these = these} {more = more} go rest) stands a h =
      elim (in_either a these more h) [
        | inl here ↦
            let goes = goes_right drawn i go a here in
            let from : i + 0 ≡ a.from = sum_zero i ∙ sym goes.0 in
            record {
              at_begin = c;
              at_end = goes.1.0;
              begins = subst (λ (n : ℕ). slice_get drawn n ≡ Some c) from (stands 0 c refl);
              ends = goes.1.2;
              looks = looks_told v c goes.1.0 goes.1.1;
            }
        | inr later ↦ of_looks rest (λ k d e. subst (λ (n : ℕ). slice_get drawn n ≡ Some d) (sum_next i k) (stands (suc k) d e)) a later
      ]

  whole_looks : UsesAreEarlier v.judgments → {i : ℕ} {cs : List Cell} {more : List Arrow} → AreArrows v drawn i cs more → (k : ℕ) (c d : Cell)
      → slice_get cs k ≡ Some c → Looks v c d → In d drawn → Goes drawn (i + k) d more
  whole_looks earlier no_more k c d at look shown = absurd (none-some c at)
  whole_looks earlier (one {i = i} {c = b} {these = these} {more = more} go rest) zero c d at look shown =
      let same : c ≡ b = sym (same_Some b c at) in
      let goes = goes_whole drawn i go d (told_looks v earlier b d (subst (λ (x : Cell). Looks v x d) same look)) shown in
      (goes.0, goes.1, (goes.2.0, goes.2.1 ∙ sym (sum_zero i), goes.2.2, in_left goes.2.0 these more goes.2.3))
  whole_looks earlier (one {i = i} {these = these} {more = more} go rest) (suc k) c d at look shown =
      let goes = whole_looks earlier rest k c d at look shown in
      (goes.0, goes.1, (goes.2.0, goes.2.1 ∙ sym (sum_next i k), goes.2.2, in_right goes.2.0 these more goes.2.3))

pub looks_drawn : ArrowsAreLooks
looks_drawn v most number g is = (
  λ a h.
      of_looks v (cells_of is.shown) is.arrows
      (λ k c e. subst (λ (n : ℕ). slice_get (cells_of is.shown) n ≡ Some c) (sym (from_zero k)) e) a h,
  λ earlier i c d at look shown.
      let goes = whole_looks v (cells_of is.shown) earlier is.arrows i c d at look shown in
      (goes.0, goes.1, (goes.2.0, goes.2.1 ∙ from_zero i, goes.2.2, goes.2.3)),
)
