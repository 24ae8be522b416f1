-- The lines of a text so far: none before the first line, and then it and those of the rows.
use Rattle.lucid_flat.proofs.Common.{◌≡◌, ℕ, Bool, true, false, cond, List, [], ◌∷◌, ◌++◌, map, refl, sym, ap, ◌∙◌, subst, MatchBool, bytes_eq, bytes_eq-Decides, text_of, CanGoOn, CannotGoOn, OneValue, FlatLines, first_line, flat_rows, row_line, IsTextOf, AreTableLines, table_of, part_in, rows_in, AreBegun, lines_of_rows, lines_in, AreKept, ◌↔◌, false≢true}
use Rattle.lucid_flat.proofs.OneTable.{none_is_no_text}
use Rattle.lucid_flat.proofs.WholeLines.{begun_goes_on, whole_lines_are, lines_are_whole}

behind_it : (l : FlatLines) → l.has_first ≡ true → lines_in l ≡ lines_of_rows (rows_in l.rows)
behind_it l h = ap (λ (b : Bool). cond b (lines_of_rows (rows_in l.rows)) []) h

before_it : (l : FlatLines) → l.has_first ≡ false → lines_in l ≡ []
before_it l h = ap (λ (b : Bool). cond b (lines_of_rows (rows_in l.rows)) []) h

-- what is said of a line that is added, or can't come
abbrev pub Adds : (l m : FlatLines) → (line : List ℕ) → (added : Bool) → Type 0
Adds l m line added =
    MatchBool added (AreKept m × (lines_in m ≡ lines_in l ++ line ∷ []) × CanGoOn AreTableLines (lines_in m))
    (CannotGoOn AreTableLines (lines_in l ++ line ∷ []))

kept : (m : FlatLines) → m.has_first ≡ true → AreBegun m.rows → AreKept m
kept m h b = record { begun = b; none = λ f. absurd (false≢true (sym f ∙ h)) }

goes_on : (m : FlatLines) → m.has_first ≡ true → AreBegun m.rows → CanGoOn AreTableLines (lines_in m)
goes_on m h b = subst (CanGoOn AreTableLines) (sym (behind_it m h)) (begun_goes_on (table_of m.rows) (part_in m.rows) b)

-- a row's line behind the first
pub row_added : (l m : FlatLines) (line : List ℕ) (added : Bool) → l.has_first ≡ true → m.has_first ≡ true
    → MatchBool added (AreBegun m.rows × (lines_of_rows (rows_in m.rows) ≡ lines_of_rows (rows_in l.rows) ++ line ∷ []))
    (CannotGoOn AreTableLines (lines_of_rows (rows_in l.rows) ++ line ∷ []))
    → Adds l m line added
row_added l m line true h k e =
    (kept m k e.0, behind_it m k ∙ (e.1 ∙ ap (λ (ls : List (List ℕ)). ls ++ line ∷ []) (sym (behind_it l h))), goes_on m k e.0)
row_added l m line false h k e =
    let P : List (List ℕ) → Type 0 = λ ls. CannotGoOn AreTableLines (ls ++ line ∷ []) in subst P (sym (behind_it l h)) e

no_first : (line : List ℕ) → (line ≡ first_line → ⊥) → CannotGoOn AreTableLines ([] ++ line ∷ [])
no_first line h (more, (t, d, e)) = h (same line first_line more (map row_line (flat_rows t)) e)
  where
    same : (x y : List ℕ) (xs ys : List (List ℕ)) → x ∷ xs ≡ y ∷ ys → x ≡ y
    same x y xs ys q = cc

-- the first line
pub first_added : (l m : FlatLines) (line : List ℕ) (added : Bool) → AreKept l → l.has_first ≡ false → m.has_first ≡ added → m.rows ≡ l.rows
    → added ≡ bytes_eq line first_line
    → Adds l m line added
first_added l m line true k f g r e =
    let begun = subst AreBegun (sym r) k.begun in
    let word = (bytes_eq-Decides line first_line).0 (sym e) in
    let rows : rows_in m.rows ≡ [] = ap rows_in r ∙ k.none f in (
      kept m g begun,
      behind_it m g ∙ (ap lines_of_rows rows ∙ (ap (λ (w : List ℕ). w ∷ []) (sym word) ∙ ap (λ (ls : List (List ℕ)). ls ++ line ∷ []) (sym (before_it l f)))),
      goes_on m g begun,
    )
first_added l m line false k f g r e =
    let P : List (List ℕ) → Type 0 = λ ls. CannotGoOn AreTableLines (ls ++ line ∷ []) in
    subst P (sym (before_it l f)) (no_first line (λ q. false≢true (e ∙ (bytes_eq-Decides line first_line).1 q)))

-- The lines so far are a text's exactly where the first one is read and the rows end with the root.
pub whole_by : OneValue → (l : FlatLines) → AreKept l → (w : Bool) → ((w ≡ true) ↔ (part_in l.rows ≡ 7)) → l.has_first ≡ true
    → (w ≡ true) ↔ AreTableLines (lines_in l)
whole_by law l k w e h = (to, from)
  where
    to : w ≡ true → AreTableLines (lines_in l)
    to t =
        let d = whole_lines_are (table_of l.rows) (part_in l.rows) k.begun (e.0 t) in
        let P : List (List ℕ) → Type 0 = AreTableLines in subst P (sym (behind_it l h)) (table_of l.rows, d.0, ap lines_of_rows d.1)

    from : AreTableLines (lines_in l) → w ≡ true
    from d =
        let P : List (List ℕ) → Type 0 = AreTableLines in e.1 (lines_are_whole law (table_of l.rows) (part_in l.rows) k.begun (subst P (behind_it l h) d))

pub not_whole : (l : FlatLines) → l.has_first ≡ false → AreTableLines (lines_in l) → ⊥
not_whole l h d = let P : List (List ℕ) → Type 0 = AreTableLines in none_is_no_text (subst P (before_it l h) d)

by_first : (l : FlatLines) (b : Bool) → l.has_first ≡ b → AreTableLines (lines_in l) → l.has_first ≡ true
by_first l true h d = h
by_first l false h d = absurd (not_whole l h d)

-- Bytes whose lines are those of a text are the text of the rows' table.
pub text_read : OneValue → (bytes : List ℕ) (l : FlatLines) → AreKept l → AreTableLines (lines_in l) → bytes ≡ text_of (lines_in l)
    → IsTextOf bytes (table_of l.rows)
text_read law bytes l k d e =
    let h = by_first l l.has_first refl d in
    let P : List (List ℕ) → Type 0 = AreTableLines in
    let seven = lines_are_whole law (table_of l.rows) (part_in l.rows) k.begun (subst P (behind_it l h) d) in
    let w = whole_lines_are (table_of l.rows) (part_in l.rows) k.begun seven in
    record { has = w.0; text = e ∙ ap text_of (behind_it l h ∙ ap lines_of_rows w.1) }
