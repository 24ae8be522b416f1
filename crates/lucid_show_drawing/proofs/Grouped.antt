-- One line more, and one panel more.
use Rattle.lucid_show_drawing.proofs.Common.{◌≡◌, ◌≢◌, ℕ, ◌<◌, List, [], ◌∷◌, ◌++◌, take, drop, Some, sym, ap, subst, ◌∙◌, All, Contains, slice_get, append_assoc, take-append-drop, take_more, map, length, get_or, ◌+◌, None, refl, append-nil}
use Rattle.std.specs.List.{AllZip, dedup}
use Rattle.std.specs.List.Sorted.{IsPermutation, IsSorted, IsStrictlyIncreasing}
use Rattle.std.specs.Ordering.{nat_cmp}
use Rattle.std.proofs.Common.{eqb}
use Rattle.std.proofs.lemmas.List.{map-append}
use Rattle.std.proofs.lemmas.List.Kept.{Contains-dedup_nat, Contains-from_dedup}
use Rattle.std.proofs.lemmas.List.Sorted.{Contains-permutation, IsPermutation-sym}
use Rattle.std.proofs.lemmas.Map.Keys.{IsStrictlyIncreasing-dedup}
use Rattle.std.proofs.lemmas.Slice.Zip.{all_zipped_more}
use Rattle.lucid_show_grid.specs.declared.grid.Mark.{Mark}
use Rattle.lucid_show_grid.specs.Grids.{PlainLine, PlainMark, PlainPanel, plain_mark}
use Rattle.lucid_show_outline.specs.Views.{View}
use Rattle.lucid_show_drawing.specs.declared.asked.Asked.{Asked}
use Rattle.lucid_show_drawing.specs.Looked.{AreOnce}
use Rattle.lucid_show_drawing.specs.Orders.{AreFront, RowsTogether, StandTogether}
use Rattle.lucid_show_drawing.specs.Panels.{AreLines, ArePanels, IsLine, IsMark, IsPanel, PlainRoles, line, no_line, no_panel, panel}
use Rattle.lucid_show_drawing.proofs.Together.{behind_front, some_front}

module _ (v : View) (roles : PlainRoles) (all rest these more : List Asked) (n : ℕ) (first : Asked) (front_is : these ≡ take n rest)
    (back_is : more ≡ drop n rest) (at_front : slice_get rest 0 ≡ Some first) where
  joined : these ++ more ≡ rest
  joined = ap (λ (z : List Asked). z ++ more) front_is ∙ ap (λ (z : List Asked). take n rest ++ z) back_is ∙ take-append-drop n rest

  -- the line of those at the front, after those before
  pub line_more : (l : PlainLine) (old new : List PlainLine) → RowsTogether rest → AreFront (λ (a : Asked). a.spot.row) rest first.spot.row n
      → IsLine v roles these first l → new ≡ old ++ l ∷ [] → ((ls : List PlainLine) → AreLines v roles rest ls → AreLines v roles all (old ++ ls))
      → (ls : List PlainLine) → AreLines v roles more ls → AreLines v roles all (new ++ ls)
  line_more l old new together front is added so_far ls later =
      let others : All (λ (a : Asked). a.spot.row ≢ first.spot.row) more =
      subst (λ (z : List Asked). All (λ (a : Asked). a.spot.row ≢ first.spot.row) z) (sym back_is)
      (behind_front (λ (a : Asked). a.spot.row) rest first.spot.row n together front (some_front (λ (a : Asked). a.spot.row) rest n first at_front front)) in
      subst (λ (z : List PlainLine). AreLines v roles all z) (sym (ap (λ (z : List PlainLine). z ++ ls) added ∙ append_assoc old (l ∷ []) ls))
      (so_far (l ∷ ls) (subst (λ (z : List Asked). AreLines v roles z (l ∷ ls)) joined (line first is others later)))

  -- the panel of those at the front, after those before
  pub panel_more : (p : PlainPanel) (old new : List PlainPanel) → StandTogether rest → AreFront (λ (a : Asked). a.spot.context) rest first.spot.context n
      → IsPanel v roles first.spot.context these p → new ≡ old ++ p ∷ []
      → ((ps : List PlainPanel) → ArePanels v roles rest ps → ArePanels v roles all (old ++ ps))
      → (ps : List PlainPanel) → ArePanels v roles more ps → ArePanels v roles all (new ++ ps)
  panel_more p old new together front is added so_far ps later =
      let others : All (λ (a : Asked). a.spot.context ≢ first.spot.context) more =
      subst (λ (z : List Asked). All (λ (a : Asked). a.spot.context ≢ first.spot.context) z) (sym back_is)
      (behind_front (λ (a : Asked). a.spot.context) rest first.spot.context n together.contexts front
      (some_front (λ (a : Asked). a.spot.context) rest n first at_front front)) in
      subst (λ (z : List PlainPanel). ArePanels v roles all z) (sym (ap (λ (z : List PlainPanel). z ++ ps) added ∙ append_assoc old (p ∷ []) ps))
      (so_far (p ∷ ps) (subst (λ (z : List Asked). ArePanels v roles z (p ∷ ps)) joined (panel first.spot.context is others later)))

-- the marks of one value more
pub marks_more : (v : View) (roles : PlainRoles) (these : List Asked) (i : ℕ) (d : Asked) → i < length these → (old new : List Mark) (m : Mark)
    → new ≡ old ++ m ∷ [] → IsMark v roles (get_or these i d) (plain_mark m) → AllZip (IsMark v roles) (take i these) (map plain_mark old)
    → AllZip (IsMark v roles) (take (i + 1) these) (map plain_mark new)
marks_more v roles these i d h old new m added is so_far =
    subst (λ (z : List Asked). AllZip (IsMark v roles) z (map plain_mark new)) (sym (take_more these i d h))
    (subst (λ (z : List PlainMark). AllZip (IsMark v roles) (take i these ++ get_or these i d ∷ []) z)
    (sym (ap (map plain_mark) added ∙ map-append plain_mark old (m ∷ [])))
    (all_zipped_more (IsMark v roles) (take i these) (map plain_mark old) (get_or these i d) (plain_mark m) so_far is))

-- numbers, sorted, each once
pub once_each : (all taken sorted kept : List ℕ) → taken ≡ all → IsPermutation taken sorted → IsSorted nat_cmp sorted → kept ≡ dedup eqb sorted
    → AreOnce all kept
once_each of taken sorted kept all same rise once = record {
  rise = subst IsStrictlyIncreasing (sym once) (IsStrictlyIncreasing-dedup sorted rise);
  all = λ t h.
      subst (λ (z : List ℕ). Contains z t) (sym once)
      (Contains-dedup_nat sorted t (Contains-permutation taken sorted t same (subst (λ (z : List ℕ). Contains z t) (sym all) h)));
  no_other = λ t h.
      subst (λ (z : List ℕ). Contains z t) all
      (Contains-permutation sorted taken t (IsPermutation-sym taken sorted same)
      (Contains-from_dedup eqb sorted t (subst (λ (z : List ℕ). Contains z t) once h)));
}

-- where none is left, those so far are all
nothing_left : (xs : List Asked) → None ≡ slice_get xs 0 → xs ≡ []
nothing_left [] h = refl
nothing_left (x ∷ xs) h = absurd (cc)

pub all_lines : (v : View) (roles : PlainRoles) (all rest : List Asked) (lines : List PlainLine) → None ≡ slice_get rest 0
    → ((ls : List PlainLine) → AreLines v roles rest ls → AreLines v roles all (lines ++ ls)) → AreLines v roles all lines
all_lines v roles all rest lines none so_far =
    subst (λ (z : List PlainLine). AreLines v roles all z) (append-nil lines)
    (so_far [] (subst (λ (z : List Asked). AreLines v roles z []) (sym (nothing_left rest none)) no_line))

pub all_panels : (v : View) (roles : PlainRoles) (all rest : List Asked) (panels : List PlainPanel) → None ≡ slice_get rest 0
    → ((ps : List PlainPanel) → ArePanels v roles rest ps → ArePanels v roles all (panels ++ ps)) → ArePanels v roles all panels
all_panels v roles all rest panels none so_far =
    subst (λ (z : List PlainPanel). ArePanels v roles all z) (append-nil panels)
    (so_far [] (subst (λ (z : List Asked). ArePanels v roles z []) (sym (nothing_left rest none)) no_panel))
