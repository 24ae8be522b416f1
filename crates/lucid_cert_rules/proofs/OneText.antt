-- Lines that begin a text, and what goes on with them; a text is one certificate's.
use Rattle.lucid_cert_rules.proofs.Common.{◌≡◌, ℕ, ◌<◌, List, [], ◌∷◌, ◌++◌, map, length, None, refl, sym, ap, ◌∙◌, subst, arith, append_assoc, length-append, codes, decimal, AllByRecursion, value_text, Lacks, text_of, CanGoOn, CannotGoOn, OneValue, solid_lacks, decimal_solid, PlainJudgment, WhyRow, context_row, judgment_row, judgment_numbers, why_rows, row_head, row_rest, row_line, why_lines, RowFits, HasText, AreWhyLines, IsTextOf, IsRowOf, ContextRow, Call, Frozen, Why, all-append, pos}
use Rattle.std.proofs.lemmas.List.{map-append}
use Rattle.lucid_value.specs.Plain.{int}
use Rattle.lucid_texts.specs.TextLines.{IsLine}
use Rattle.lucid_texts.proofs.Bytes.{all_solid_lack, join_lacks}
use Rattle.lucid_texts.proofs.ValueBytes.{value_lacks}
use Rattle.lucid_texts.proofs.TextsRead.{text_lines}
use Rattle.lucid_cert_rules.specs.Laws.{OneWhy}
use Rattle.lucid_cert_rules.proofs.RowsGiven.{row_tail, line_parts, numbers_solid}
use Rattle.lucid_cert_rules.proofs.RowLemmas.{one_row}

-- no word of a row's line has a line end
words_lack : (r : WhyRow) → RowFits r → AllByRecursion (Lacks 10) (row_head r ∷ row_rest r)
words_lack (context_row (Call b p c)) h =
    (solid_lacks 10 refl (codes "c") refl, all_solid_lack 10 refl (row_rest (context_row (Call b p c))) (decimal_solid b (omega (arith, h.0)), (decimal_solid p (omega (arith, h.1.0)), (decimal_solid c (omega (arith, h.1.1)), tt))))
words_lack (context_row (Frozen b t)) h =
    (solid_lacks 10 refl (codes "z") refl, all_solid_lack 10 refl (row_rest (context_row (Frozen b t))) (decimal_solid b (omega (arith, h.0)), (decimal_solid t (omega (arith, h.1)), tt)))
words_lack (judgment_row j) h =
    let words = map decimal (judgment_numbers j) in
    let last_word : AllByRecursion (Lacks 10) (value_text j.value ∷ []) = (value_lacks j.value h.value, tt) in
    (solid_lacks 10 refl (codes "j") refl, all-append (Lacks 10) words (value_text j.value ∷ []) (all_solid_lack 10 refl words (numbers_solid j h)) last_word)

row_lacks : (r : WhyRow) → RowFits r → Lacks 10 (row_line r)
row_lacks r h = join_lacks (row_head r ∷ row_rest r) (words_lack r h)

row_has : (r : WhyRow) → 0 < length (row_line r)
row_has r = omega (arith, ap length (line_parts r), length-append (row_head r) (32 ∷ row_tail r))

rows_are_lines : (rs : List WhyRow) → AllByRecursion RowFits rs → AllByRecursion IsLine (map row_line rs)
rows_are_lines [] h = tt
rows_are_lines (r ∷ rs) h = ((row_has r, row_lacks r h.0), rows_are_lines rs h.1)

-- No line of a certificate's text is empty or has a line end.
pub why_lines_are : (ls : List (List ℕ)) → AreWhyLines ls → AllByRecursion IsLine ls
why_lines_are ls (w, h, e) =
    let P : List (List ℕ) → Type 0 = AllByRecursion IsLine in subst P (sym e) (rows_are_lines (why_rows w) h.rows)

-- where the lines of rows go on with a line, the rows go on with its row
record OneMore (ts rs : List WhyRow) (line : List ℕ) : Type 0 where
  pub row : WhyRow
  pub others : List WhyRow
  pub rows : ts ≡ rs ++ row ∷ others
  pub is : line ≡ row_line row
  pub fits : RowFits row

one_more_row : OneValue → (ts rs : List WhyRow) (line : List ℕ) (more : List (List ℕ)) → AllByRecursion RowFits ts → AllByRecursion RowFits rs
    → map row_line ts ≡ map row_line rs ++ line ∷ more → OneMore ts rs line
one_more_row law [] [] line more f g e = absurd (cc)
one_more_row law [] (r ∷ rs) line more f g e = absurd (cc)
one_more_row law (t ∷ ts) [] line more f g e = record { row = t; others = ts; rows = refl; is = cc; fits = f.0 }
one_more_row law (t ∷ ts) (r ∷ rs) line more f g e =
    let same = one_row law t r f.0 g.0 (cc) in
    let o = one_more_row law ts rs line more f.1 g.1 (cc) in record {
      row = o.row;
      others = o.others;
      rows = ap (λ (x : WhyRow). x ∷ ts) same ∙ ap (λ (xs : List WhyRow). r ∷ xs) o.rows;
      is = o.is;
      fits = o.fits;
    }

goes_on_by : OneValue → (rs : List WhyRow) (line : List ℕ) (more : List (List ℕ)) (w : Why) → AllByRecursion RowFits rs → HasText w
    → (map row_line rs ++ line ∷ []) ++ more ≡ why_lines w → OneMore (why_rows w) rs line
goes_on_by law rs line more w g d e = one_more_row law (why_rows w) rs line more d.rows g (sym e ∙ append_assoc (map row_line rs) (line ∷ []) more)

-- a line that is no row's comes nowhere
pub no_row_here : OneValue → (rs : List WhyRow) (line : List ℕ) → AllByRecursion RowFits rs → IsRowOf line None
    → CannotGoOn AreWhyLines (map row_line rs ++ line ∷ [])
no_row_here law rs line g h (more, (w, d, e)) =
    let o = goes_on_by law rs line more w g d e in h o.row o.fits o.is

-- behind judgments no row of a context stands
none_behind : (c : ContextRow) (more : List WhyRow) (js ks : List PlainJudgment) → map judgment_row js ++ context_row c ∷ more ≡ map judgment_row ks → ⊥
none_behind c more [] [] e = cc
none_behind c more [] (k ∷ ks) e = let q : context_row c ≡ judgment_row k = cc in cc
none_behind c more (j ∷ js) [] e = cc
none_behind c more (j ∷ js) (k ∷ ks) e = none_behind c more js ks (cc)

no_context : (c : ContextRow) (more : List WhyRow) (j : PlainJudgment) (js ks : List PlainJudgment) (cs ds : List ContextRow)
    → (map context_row cs ++ map judgment_row (j ∷ js)) ++ context_row c ∷ more ≡ map context_row ds ++ map judgment_row ks → ⊥
no_context c more j js ks [] [] e = none_behind c more (j ∷ js) ks e
no_context c more j js ks [] (d ∷ ds) e = let q : judgment_row j ≡ context_row d = cc in cc
no_context c more j js [] (b ∷ cs) [] e = cc
no_context c more j js (k ∷ ks) (b ∷ cs) [] e = let q : context_row b ≡ judgment_row k = cc in cc
no_context c more j js ks (b ∷ cs) (d ∷ ds) e = no_context c more j js ks cs ds (cc)

-- so it comes nowhere there
pub no_context_here : OneValue → (cs : List ContextRow) (j : PlainJudgment) (js : List PlainJudgment) (c : ContextRow) (line : List ℕ)
    → AllByRecursion RowFits (map context_row cs ++ map judgment_row (j ∷ js)) → RowFits (context_row c) → line ≡ row_line (context_row c)
    → CannotGoOn AreWhyLines (map row_line (map context_row cs ++ map judgment_row (j ∷ js)) ++ line ∷ [])
no_context_here law cs j js c line g f l (more, (w, d, e)) =
    let o = goes_on_by law (map context_row cs ++ map judgment_row (j ∷ js)) line more w g d e in
    let same = one_row law (context_row c) o.row f o.fits (sym l ∙ o.is) in
    no_context c o.others j js w.judgments cs w.contexts
    (sym (o.rows ∙ ap (λ (x : WhyRow). (map context_row cs ++ map judgment_row (j ∷ js)) ++ x ∷ o.others) (sym same)))

-- a judgment with which each text goes on
smallest : PlainJudgment
smallest = record { node = 0; context = 0; time = 0; space = 0; uses = []; value = int (pos 0) }

smallest_fits : RowFits (judgment_row smallest)
unfolding smallest
smallest_fits = record {
  node = omega arith;
  context = omega arith;
  shown = record { time = omega arith; space = omega arith; few = omega arith; uses = tt };
  value = refl;
}

pub rows-push : (cs : List ContextRow) (js : List PlainJudgment) (j : PlainJudgment)
    → map context_row cs ++ map judgment_row (js ++ j ∷ []) ≡ (map context_row cs ++ map judgment_row js) ++ judgment_row j ∷ []
rows-push cs js j = ap (λ (x : List WhyRow). map context_row cs ++ x) (map-append judgment_row js (j ∷ []))
    ∙ sym (append_assoc (map context_row cs) (map judgment_row js) (judgment_row j ∷ []))

-- Rows that fit, those of contexts first, go on to a text.
pub begun_goes_on : (w : Why) → AllByRecursion RowFits (why_rows w) → CanGoOn AreWhyLines (why_lines w)
begun_goes_on w h =
    let v : Why = record { contexts = w.contexts; judgments = w.judgments ++ smallest ∷ [] } in
    let rows : why_rows v ≡ why_rows w ++ judgment_row smallest ∷ [] = rows-push w.contexts w.judgments smallest in
    let P : List WhyRow → Type 0 = AllByRecursion RowFits in
    let has : HasText v = record {
      rows = subst P (sym rows) (all-append RowFits (why_rows w) (judgment_row smallest ∷ []) h (smallest_fits, tt));
      some = omega (arith, length-append w.judgments (smallest ∷ []));
    } in (row_line (judgment_row smallest) ∷ [], (v, has, sym (ap (map row_line) rows ∙ map-append row_line (why_rows w) (judgment_row smallest ∷ []))))

-- rows of judgments, and all rows, are of one list of contexts and one of judgments
same_judgments : (js ks : List PlainJudgment) → map judgment_row js ≡ map judgment_row ks → js ≡ ks
same_judgments [] [] e = refl
same_judgments [] (k ∷ ks) e = absurd (cc)
same_judgments (j ∷ js) [] e = absurd (cc)
same_judgments (j ∷ js) (k ∷ ks) e =
    let q : j ≡ k = cc in
    let r = same_judgments js ks (cc) in cc (q, r)

same_parts : (cs ds : List ContextRow) (js ks : List PlainJudgment) → map context_row cs ++ map judgment_row js ≡ map context_row ds ++ map judgment_row ks
    → (cs ≡ ds) × (js ≡ ks)
same_parts [] [] js ks e = (refl, same_judgments js ks e)
same_parts [] (d ∷ ds) [] ks e = absurd (cc)
same_parts [] (d ∷ ds) (j ∷ js) ks e = let q : judgment_row j ≡ context_row d = cc in absurd (cc)
same_parts (c ∷ cs) [] js [] e = absurd (cc)
same_parts (c ∷ cs) [] js (k ∷ ks) e = let q : context_row c ≡ judgment_row k = cc in absurd (cc)
same_parts (c ∷ cs) (d ∷ ds) js ks e =
    let q : c ≡ d = cc in
    let r = same_parts cs ds js ks (cc) in (cc (q, r.0), r.1)

same_rows : OneValue → (rs ss : List WhyRow) → AllByRecursion RowFits rs → AllByRecursion RowFits ss → map row_line rs ≡ map row_line ss → rs ≡ ss
same_rows law [] [] f g e = refl
same_rows law [] (s ∷ ss) f g e = absurd (cc)
same_rows law (r ∷ rs) [] f g e = absurd (cc)
same_rows law (r ∷ rs) (s ∷ ss) f g e =
    let a = one_row law r s f.0 g.0 (cc) in
    let b = same_rows law rs ss f.1 g.1 (cc) in cc (a, b)

abbrev made : List ContextRow → List PlainJudgment → Why
made cs js = record { contexts = cs; judgments = js }

-- Lines of rows that fit are one certificate's.
pub one_by_lines : OneValue → (v w : Why) → AllByRecursion RowFits (why_rows v) → AllByRecursion RowFits (why_rows w) → why_lines v ≡ why_lines w → v ≡ w
one_by_lines law v w f g e =
    let p = same_parts v.contexts w.contexts v.judgments w.judgments (same_rows law (why_rows v) (why_rows w) f g e) in
    ap (λ (cs : List ContextRow). made cs v.judgments) p.0 ∙ ap (made w.contexts) p.1

-- No bytes are the text of two certificates.
pub one_why : OneValue → OneWhy
one_why law bytes v w h k =
    one_by_lines law v w h.has.rows k.has.rows
    (sym (text_lines AreWhyLines why_lines_are bytes (why_lines v) (v, h.has, refl) h.text)
    ∙ text_lines AreWhyLines why_lines_are bytes (why_lines w) (w, k.has, refl) k.text)

-- The rows so far are those of a text exactly where there is a judgment.
pub is_whole : OneValue → (w : Why) → AllByRecursion RowFits (why_rows w) → AreWhyLines (why_lines w) → 0 < length w.judgments
is_whole law w f (v, h, e) =
    let same = one_by_lines law w v f h.rows e in omega (arith, ap (λ (x : Why). length x.judgments) same, h.some)

-- Bytes whose lines are those of a text are its certificate's text.
pub text_is : OneValue → (bytes : List ℕ) (w : Why) → AllByRecursion RowFits (why_rows w) → AreWhyLines (why_lines w) → bytes ≡ text_of (why_lines w)
    → IsTextOf bytes w
text_is law bytes w f d e = record { has = record { rows = f; some = is_whole law w f d }; text = e }

-- A text goes on with no line.
pub none_goes_on : CanGoOn AreWhyLines []
none_goes_on = begun_goes_on (made [] []) tt
