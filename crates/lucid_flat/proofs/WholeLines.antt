-- The lines of rows that begin a text, and what goes on with them.
use Rattle.lucid_flat.proofs.Common.{◌≡◌, ℕ, ◌<◌, ◌^◌, Bool, true, false, cond, List, [], ◌∷◌, ◌++◌, map, drop, length, None, refl, sym, ap, ◌∙◌, subst, arith, append_assoc, length-append, ◌==◌, codes, MatchBool, AllByRecursion, append-nil, Table, Lacks, CanGoOn, CannotGoOn, OneValue, solid_lacks, decimal_solid, decimals_solid, FlatRow, scope_row, input_row, constant_row, node_row, name_row, place_row, root_row, entry_number, row_line, first_line, flat_rows, RowFits, HasText, AreTableLines, IsRowOf, lines_of_rows, part_behind, rows_so_far, IsBegun, CannotCome, all-append}
use Rattle.lucid_texts.specs.TextLines.{IsLine}
use Rattle.lucid_texts.proofs.Bytes.{all_solid_lack, join_lacks}
use Rattle.lucid_texts.proofs.ValueBytes.{name_lacks, value_lacks}
use Rattle.lucid_flat.specs.FlatText.{row_words}
use Rattle.lucid_flat.proofs.LineBytes.{node_solid, kind_solid, entry_solid}
use Rattle.lucid_flat.proofs.RowsGiven.{row_head, row_tail, line_parts}
use Rattle.lucid_flat.proofs.RowLemmas.{one_row}
use Rattle.lucid_flat.proofs.Gathering.{push_g, behind-push}

words_lack : (r : FlatRow) → RowFits r → AllByRecursion (Lacks 10) (row_words r)
words_lack (scope_row r) h = all_solid_lack 10 refl (row_words (scope_row r)) (refl, (decimal_solid r.parent (omega (arith, h.0)), (kind_solid r.kind, tt)))
words_lack (input_row n) h = (solid_lacks 10 refl (codes "input") refl, (name_lacks 10 refl refl n h, tt))
words_lack (constant_row v) h = (solid_lacks 10 refl (codes "const") refl, (value_lacks v h, tt))
words_lack (node_row r) h = all_solid_lack 10 refl (row_words (node_row r)) (refl, (decimal_solid r.scope (omega (arith, h.0)), node_solid r.node h.1))
words_lack (name_row r) h = all_solid_lack 10 refl (row_words (name_row r))
    (entry_solid r.kind, (decimal_solid r.scope (omega (arith, h.0)), (decimal_solid (entry_number r.kind) (omega (arith, h.1)), tt)))
words_lack (place_row r) h = all_solid_lack 10 refl (row_words (place_row r))
    (refl, (decimal_solid r.scope (omega (arith, h.0)), (decimal_solid r.name (omega (arith, h.1)), decimals_solid (2 ^ 32) (omega arith) r.actuals h.2)))
words_lack (root_row n) h = all_solid_lack 10 refl (row_words (root_row n)) (refl, (decimal_solid n (omega (arith, h)), tt))

-- a row's line has no line end
pub row_lacks : (r : FlatRow) → RowFits r → Lacks 10 (row_line r)
row_lacks r h = join_lacks (row_words r) (words_lack r h)

-- and has a blank at least
row_has : (r : FlatRow) → 0 < length (row_line r)
row_has r = omega (arith, ap length (line_parts r), length-append (row_head r) (32 ∷ row_tail r))

rows_are_lines : (rs : List FlatRow) → AllByRecursion RowFits rs → AllByRecursion IsLine (map row_line rs)
rows_are_lines [] h = tt
rows_are_lines (r ∷ rs) h = ((row_has r, row_lacks r h.0), rows_are_lines rs h.1)

first_is_line : IsLine first_line
first_is_line = (omega arith, (refl, (refl, (refl, (refl, (refl, (refl, (refl, (refl, (refl, (refl, (refl, (refl, tt)))))))))))))

-- No line of a table's text is empty or has a line end.
pub table_lines : (ls : List (List ℕ)) → AreTableLines ls → AllByRecursion IsLine ls
table_lines ls (t, h, e) =
    let P : List (List ℕ) → Type 0 = AllByRecursion IsLine in subst P (sym e) (first_is_line, rows_are_lines (flat_rows t) h.rows)

-- where the lines of rows go on with a line, the rows go on with its row
pub record OneMore (ts rs : List FlatRow) (line : List ℕ) : Type 0 where
  pub row : FlatRow
  pub others : List FlatRow
  pub rows : ts ≡ rs ++ row ∷ others
  pub is : line ≡ row_line row
  pub fits : RowFits row

pub one_more_row : OneValue → (ts rs : List FlatRow) (line : List ℕ) (more : List (List ℕ)) → AllByRecursion RowFits ts → AllByRecursion RowFits rs
    → map row_line ts ≡ map row_line rs ++ line ∷ more → OneMore ts rs line
one_more_row law [] [] line more f g e = absurd (cc)
one_more_row law [] (r ∷ rs) line more f g e = absurd (cc)
one_more_row law (t ∷ ts) [] line more f g e = record { row = t; others = ts; rows = refl; is = cc; fits = f.0 }
one_more_row law (t ∷ ts) (r ∷ rs) line more f g e =
    let same = one_row law t r f.0 g.0 (cc) in
    let o = one_more_row law ts rs line more f.1 g.1 (cc) in record {
      row = o.row;
      others = o.others;
      rows = ap (λ (x : FlatRow). x ∷ ts) same ∙ ap (λ (xs : List FlatRow). r ∷ xs) o.rows;
      is = o.is;
      fits = o.fits;
    }

behind_first : (x : List ℕ) (xs ys : List (List ℕ)) → x ∷ xs ≡ x ∷ ys → xs ≡ ys
behind_first x xs ys e = cc

-- where a text goes on with the lines of rows and a line, a table's rows go on with the line's row
goes_on_by : OneValue → (rs : List FlatRow) (line : List ℕ) (more : List (List ℕ)) (t : Table) → AllByRecursion RowFits rs → HasText t
    → (lines_of_rows rs ++ line ∷ []) ++ more ≡ first_line ∷ map row_line (flat_rows t) → OneMore (flat_rows t) rs line
goes_on_by law rs line more t g d e =
    let split = sym e ∙ append_assoc (lines_of_rows rs) (line ∷ []) more in
    one_more_row law (flat_rows t) rs line more d.rows g (behind_first first_line _ _ split)

-- a line that is no row's comes nowhere
pub no_row_here : OneValue → (rs : List FlatRow) (line : List ℕ) → AllByRecursion RowFits rs → IsRowOf line None
    → CannotGoOn AreTableLines (lines_of_rows rs ++ line ∷ [])
no_row_here law rs line g h (more, (t, d, e)) =
    let o = goes_on_by law rs line more t g d e in h o.row o.fits o.is

-- nor does that of a row that can't come
cannot_come_here : OneValue → (rs : List FlatRow) (r : FlatRow) (line : List ℕ) → AllByRecursion RowFits rs → RowFits r → line ≡ row_line r → CannotCome rs r
    → CannotGoOn AreTableLines (lines_of_rows rs ++ line ∷ [])
cannot_come_here law rs r line g f l h (more, (t, d, e)) =
    let o = goes_on_by law rs line more t g d e in
    let same = one_row law r o.row f o.fits (sym l ∙ o.is) in
    h t o.others d (o.rows ∙ ap (λ (x : FlatRow). rs ++ x ∷ o.others) (sym same))

lines-push : (rs : List FlatRow) (r : FlatRow) → lines_of_rows (rs ++ r ∷ []) ≡ lines_of_rows rs ++ row_line r ∷ []
lines-push rs r = ap (λ (ls : List (List ℕ)). first_line ∷ ls) (pushed rs)
  where
    pushed : (ss : List FlatRow) → map row_line (ss ++ r ∷ []) ≡ map row_line ss ++ row_line r ∷ []
    pushed [] = refl
    pushed (s ∷ ss) = ap (λ (ls : List (List ℕ)). row_line s ∷ ls) (pushed ss)

-- what is said of a row that was added, or can't come, said of its line
pub of_line : OneValue → (P : Type 0) (old new : List FlatRow) (r : FlatRow) (line : List ℕ) (added : Bool) → AllByRecursion RowFits old → RowFits r
    → line ≡ row_line r
    → MatchBool added (P × (new ≡ old ++ r ∷ [])) (CannotCome old r)
    → MatchBool added (P × (lines_of_rows new ≡ lines_of_rows old ++ line ∷ [])) (CannotGoOn AreTableLines (lines_of_rows old ++ line ∷ []))
of_line law P old new r line true g f l h =
    (h.0, ap lines_of_rows h.1 ∙ (lines-push old r ∙ ap (λ (w : List ℕ). lines_of_rows old ++ w ∷ []) (sym l)))
of_line law P old new r line false g f l h = cannot_come_here law old r line g f l h

-- a table that is begun has a text, where its rows go on to the root's
whole_has : (t : Table) (p : ℕ) → rows_so_far t p ≡ flat_rows t → IsBegun t p → HasText t
whole_has t p q h =
    let P : List FlatRow → Type 0 = AllByRecursion RowFits in
    record { root = h.root; rows = subst P q h.fit; scopes = h.scopes; constants = h.constants; nodes = h.nodes; names = h.names; places = h.places }

-- The rows so far go on to a text: with the root's row, where it isn't there yet.
goes_on_to : (t : Table) (p : ℕ) (b : Bool) → (p == 7) ≡ b → IsBegun t p → CanGoOn AreTableLines (lines_of_rows (rows_so_far t p))
goes_on_to t p true e h =
    let q : rows_so_far t p ≡ flat_rows t = rw e refl in ([], (t, whole_has t p q h, append-nil (lines_of_rows (rows_so_far t p)) ∙ ap lines_of_rows q))
goes_on_to t p false e h =
    let u = record t { root = 0 } in
    let g : cond (p == 7) (root_row t.root ∷ []) [] ≡ [] = rw e refl in
    let q : flat_rows u ≡ rows_so_far t p ++ root_row 0 ∷ [] =
    push_g (map scope_row (drop 1 t.scopes)) (map input_row t.inputs) (map constant_row t.constants) (map node_row t.nodes) (map name_row t.names)
    (map place_row t.places)
    (cond (p == 7) (root_row t.root ∷ []) []) (root_row 0) g in
    let P : List FlatRow → Type 0 = AllByRecursion RowFits in
    let has : HasText u = record {
      root = h.root;
      rows = subst P (sym q) (all-append RowFits (rows_so_far t p) (root_row 0 ∷ []) h.fit (omega arith, tt));
      scopes = h.scopes;
      constants = h.constants;
      nodes = h.nodes;
      names = h.names;
      places = h.places;
    } in (row_line (root_row 0) ∷ [], (u, has, sym (ap lines_of_rows q ∙ lines-push (rows_so_far t p) (root_row 0))))

pub begun_goes_on : (t : Table) (p : ℕ) → IsBegun t p → CanGoOn AreTableLines (lines_of_rows (rows_so_far t p))
begun_goes_on t p h = goes_on_to t p (p == 7) refl h

-- the rows of a whole text are followed by none
whole_part : (t : Table) → part_behind 0 (flat_rows t) ≡ 7
whole_part t =
    ap (part_behind 0)
    (push_g (map scope_row (drop 1 t.scopes)) (map input_row t.inputs) (map constant_row t.constants) (map node_row t.nodes) (map name_row t.names)
    (map place_row t.places) [] (root_row t.root) refl)
    ∙ behind-push 0 (rows_so_far t 0) (root_row t.root)

pub same_rows : OneValue → (rs ss : List FlatRow) → AllByRecursion RowFits rs → AllByRecursion RowFits ss → lines_of_rows rs ≡ lines_of_rows ss → rs ≡ ss
same_rows law rs ss f g e = by_lines rs ss f g (behind_first first_line _ _ e)
  where
    by_lines : (xs ys : List FlatRow) → AllByRecursion RowFits xs → AllByRecursion RowFits ys → map row_line xs ≡ map row_line ys → xs ≡ ys
    by_lines [] [] h k q = refl
    by_lines [] (y ∷ ys) h k q = absurd (cc)
    by_lines (x ∷ xs) [] h k q = absurd (cc)
    by_lines (x ∷ xs) (y ∷ ys) h k q =
        let a = one_row law x y h.0 k.0 (cc) in
        let b = by_lines xs ys h.1 k.1 (cc) in cc (a, b)

-- The rows so far are those of a text exactly where the root is among them.
pub whole_lines_are : (t : Table) (p : ℕ) → IsBegun t p → p ≡ 7 → HasText t × (rows_so_far t p ≡ flat_rows t)
whole_lines_are t p h seven = let q : rows_so_far t p ≡ flat_rows t = ap (rows_so_far t) seven in (whole_has t p q h, q)

pub lines_are_whole : OneValue → (t : Table) (p : ℕ) → IsBegun t p → AreTableLines (lines_of_rows (rows_so_far t p)) → p ≡ 7
lines_are_whole law t p h (u, d, e) =
    let same = same_rows law (rows_so_far t p) (flat_rows u) h.fit d.rows e in (h.part ∙ ap (part_behind 0) same) ∙ whole_part u
