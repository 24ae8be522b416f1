-- Boxes one by one, each once.
use Rattle.lucid_show_drawing.proofs.Common.{◌≡◌, ℕ, ◌+◌, ◌<◌, Bool, true, false, List, [], ◌∷◌, ◌++◌, map, length, get_or, drop, refl, sym, ap, ◌∙◌, if◌then◌else◌}
use Rattle.std.specs.List.{flat_map}
use Rattle.std.proofs.lemmas.List.{at_drop_more}
use Rattle.indexmap.specs.IndexSet.{insert_key}
use Rattle.lucid_cert_rules.specs.Cells.{is_among}
use Rattle.lucid_cert_rules.specs.Certificates.{plain_judgment}
use Rattle.lucid_cert_rules.specs.contracts.cell.CellPartialEq.TheImpl.{eq-value}
use Rattle.lucid_cert_rules.specs.declared.cell.Cell.{Cell}
use Rattle.lucid_cert_rules.specs.declared.rows.JudgmentRow.{JudgmentRow}
use Rattle.lucid_cert_rules.proofs.SameCells.{is_among-list_any}
use Rattle.lucid_show_outline.specs.Searches.{tests}
use Rattle.lucid_show_outline.specs.Views.{View}
use Rattle.lucid_show_drawing.specs.Looked.{box_at, boxes_at, once}

key_by : (b : Bool) (had : List Cell) (c : Cell) (rest : List Cell)
    → (if b then once had rest else once (had ++ c ∷ []) rest) ≡ once (if b then had else had ++ c ∷ []) rest
key_by true had c rest = refl
key_by false had c rest = refl

one_key : (had : List Cell) (c : Cell) (rest : List Cell) → once had (c ∷ rest) ≡ once (insert_key eq-value.it had c) rest
one_key had c rest =
    key_by (is_among had c) had c rest ∙ ap (λ b. once (if b then had else had ++ c ∷ []) rest) (sym (is_among-list_any had c))

pub boxes_more : (v : View) (had : List Cell) (ns : List ℕ) (i : ℕ) (d : ℕ) → i < length ns
    → once had (boxes_at v (drop i ns)) ≡ once (insert_key eq-value.it had (box_at v (get_or ns i d))) (boxes_at v (drop (i + 1) ns))
boxes_more v had ns i d h = at_drop_more (λ ms. once had (boxes_at v ms)) ns i d h ∙ one_key had (box_at v (get_or ns i d)) (boxes_at v (drop (i + 1) ns))

pub further_more : (f : ℕ → List ℕ) (ns : List ℕ) (i : ℕ) (d : ℕ) → i < length ns
    → flat_map f (drop i ns) ≡ f (get_or ns i d) ++ flat_map f (drop (i + 1) ns)
further_more f ns i d h = at_drop_more (λ ms. flat_map f ms) ns i d h

pub tests_more : (v : View) (rows : List JudgmentRow) (i : ℕ) (d : JudgmentRow) → i < length rows
    → flat_map (tests v) (map plain_judgment (drop i rows))
    ≡ tests v (plain_judgment (get_or rows i d)) ++ flat_map (tests v) (map plain_judgment (drop (i + 1) rows))
tests_more v rows i d h = at_drop_more (λ xs. flat_map (tests v) (map plain_judgment xs)) rows i d h
