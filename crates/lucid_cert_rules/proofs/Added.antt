-- What is said of a line that is added to those of a text, or can't come.
use Rattle.lucid_cert_rules.proofs.Common.{◌≡◌, ℕ, zero, suc, ◌<◌, Bool, true, false, List, [], ◌∷◌, ◌++◌, map, length, refl, sym, ap, ◌∙◌, subst, arith, AllByRecursion, append-nil, CanGoOn, CannotGoOn, OneValue, PlainJudgment, plain_judgment, WhyRow, context_row, judgment_row, why_rows, row_line, why_lines, RowFits, HasText, AreWhyLines, why_of, lines_in, AllFit, ContextRow, JudgmentRow, Why, all-append, ◌↔◌, not, ◌==◌, eqb-true, eqb-false, length-map}
use Rattle.std.proofs.lemmas.List.{map-append}
use Rattle.lucid_cert_rules.specs.declared.read.WhyLines.{WhyLines}
use Rattle.lucid_cert_rules.proofs.OneText.{rows-push, begun_goes_on, no_context_here, is_whole}

-- the lines of the second are those of the first and this one, and a text goes on with them
abbrev pub Adds : (v w : Why) → (line : List ℕ) → Type 0
Adds v w line = AllByRecursion RowFits (why_rows w) × (why_lines w ≡ why_lines v ++ line ∷ []) × CanGoOn AreWhyLines (why_lines w)

row_adds : (v w : Why) (r : WhyRow) (line : List ℕ) → AllByRecursion RowFits (why_rows v) → why_rows w ≡ why_rows v ++ r ∷ [] → RowFits r → line ≡ row_line r
    → Adds v w line
row_adds v w r line h rows f l =
    let P : List WhyRow → Type 0 = AllByRecursion RowFits in
    let fit = subst P (sym rows) (all-append RowFits (why_rows v) (r ∷ []) h (f, tt)) in
    (fit, ap (map row_line) rows ∙ (map-append row_line (why_rows v) (r ∷ []) ∙ ap (λ (x : List ℕ). why_lines v ++ x ∷ []) (sym l)), begun_goes_on w fit)

abbrev made : List ContextRow → List PlainJudgment → Why
made cs js = record { contexts = cs; judgments = js }

-- a judgment
pub judgment_adds : (cs : List ContextRow) (old new : List JudgmentRow) (row : JudgmentRow) (line : List ℕ)
    → AllByRecursion RowFits (why_rows (made cs (map plain_judgment old)))
    → new ≡ old ++ row ∷ [] → RowFits (judgment_row (plain_judgment row)) → line ≡ row_line (judgment_row (plain_judgment row))
    → Adds (made cs (map plain_judgment old)) (made cs (map plain_judgment new)) line
judgment_adds cs old new row line h e f l =
    let js = ap (map plain_judgment) e ∙ map-append plain_judgment old (row ∷ []) in
    let rows = ap (λ (x : List PlainJudgment). why_rows (made cs x)) js ∙ rows-push cs (map plain_judgment old) (plain_judgment row) in
    row_adds (made cs (map plain_judgment old)) (made cs (map plain_judgment new)) (judgment_row (plain_judgment row)) line h rows f l

none_of : (js : List JudgmentRow) (n : ℕ) → n ≡ length js → (n == 0) ≡ true → js ≡ []
none_of [] n e h = refl
none_of (j ∷ js) n e h = let z = eqb-true n 0 h in absurd (omega (arith, e, z))

contexts-push : (cs : List ContextRow) (c : ContextRow) → map context_row (cs ++ c ∷ []) ++ [] ≡ (map context_row cs ++ []) ++ context_row c ∷ []
contexts-push cs c =
    append-nil (map context_row (cs ++ c ∷ [])) ∙ (map-append context_row cs (c ∷ [])
    ∙ ap (λ (x : List WhyRow). x ++ context_row c ∷ []) (sym (append-nil (map context_row cs))))

context_adds_first : (old new : List ContextRow) (c : ContextRow) (line : List ℕ) → AllByRecursion RowFits (why_rows (made old [])) → new ≡ old ++ c ∷ []
    → RowFits (context_row c) → line ≡ row_line (context_row c)
    → Adds (made old []) (made new []) line
context_adds_first old new c line h e f l =
    row_adds (made old []) (made new []) (context_row c) line h (ap (λ (x : List ContextRow). why_rows (made x [])) e ∙ contexts-push old c) f l

-- a context, where no judgment is before it
pub context_adds : (old new : List ContextRow) (js : List JudgmentRow) (k : ℕ) (c : ContextRow) (line : List ℕ) → k ≡ length js → (k == 0) ≡ true
    → AllByRecursion RowFits (why_rows (made old (map plain_judgment js)))
    → new ≡ old ++ c ∷ [] → RowFits (context_row c) → line ≡ row_line (context_row c)
    → Adds (made old (map plain_judgment js)) (made new (map plain_judgment js)) line
context_adds old new js k c line q n h e f l =
    let none = none_of js k q n in
    let P : List JudgmentRow → Type 0 = λ xs. AllByRecursion RowFits (why_rows (made old (map plain_judgment xs))) in
    let Q : List JudgmentRow → Type 0 = λ xs. Adds (made old (map plain_judgment xs)) (made new (map plain_judgment xs)) line in
    subst Q (sym none) (context_adds_first old new c line (subst P none h) e f l)

-- and behind a judgment it can't come
pub context_cannot : OneValue → (cs : List ContextRow) (js : List JudgmentRow) (k : ℕ) (c : ContextRow) (line : List ℕ) → k ≡ length js → (k == 0) ≡ false
    → AllByRecursion RowFits (why_rows (made cs (map plain_judgment js))) → RowFits (context_row c) → line ≡ row_line (context_row c)
    → CannotGoOn AreWhyLines (why_lines (made cs (map plain_judgment js)) ++ line ∷ [])
context_cannot law cs [] k c line q n h f l = absurd (eqb-false k 0 n q)
context_cannot law cs (j ∷ js) k c line q n h f l = no_context_here law cs (plain_judgment j) (map plain_judgment js) c line h f l

-- The lines so far are those of a text exactly where there is a judgment.
is_some : (e : Bool) (k : ℕ) → e ≡ (k == 0) → not e ≡ true → (k ≡ 0 → ⊥)
is_some true k h n = absurd (cc)
is_some false k h n = eqb-false k 0 (sym h)

is_not_none : (e : Bool) (k : ℕ) → e ≡ (k == 0) → 0 < k → not e ≡ true
is_not_none true k h l = let z = eqb-true k 0 (sym h) in absurd (omega (arith, l, z))
is_not_none false k h l = refl

above_none : (k : ℕ) → (k ≡ 0 → ⊥) → 0 < k
above_none zero h = absurd (h refl)
above_none (suc k) h = omega arith

pub whole_by : OneValue → (l : WhyLines) (e : Bool) (k : ℕ) → k ≡ length l.judgments.items → e ≡ (k == 0) → AllFit l → (not e ≡ true) ↔ AreWhyLines (lines_in l)
whole_by law l e k q h f = (to, from)
  where
    to : not e ≡ true → AreWhyLines (lines_in l)
    to n =
        let low = above_none k (is_some e k h n) in
        let has : HasText (why_of l) = record { rows = f; some = omega (arith, low, q, length-map l.judgments.items plain_judgment) } in (why_of l, has, refl)

    from : AreWhyLines (lines_in l) → not e ≡ true
    from d =
        let some = is_whole law (why_of l) f d in is_not_none e k h (omega (arith, some, q, length-map l.judgments.items plain_judgment))
