-- The row of a line: read from it, and no other; a line is one row's.
use Rattle.lucid_cert_rules.proofs.Common.{◌≡◌, ℕ, ◌<◌, ◌^◌, false, List, [], ◌∷◌, ◌++◌, map, length, Option, Some, None, refl, sym, ap, ◌∙◌, subst, codes, decimal, join_with_byte, option_map, bytes_eq, join_with_byte-slice_split, same_Some, bytes_eq-Decides, plain, value_text, Value, words_of, is_end, Lacks, IsValueOf, OneValue, is_end-words_of, PlainJudgment, WhyRow, context_row, judgment_row, row_head, row_line, JudgmentFits, RowFits, context_of, front_of, take_uses, IsRowOf, judgment_tail, IsTailOf, ContextRow, Call, Frozen, Front, recursion_from_All, none-some}
use Rattle.lucid_value.specs.Plain.{PlainValue}
use Rattle.lucid_texts.specs.Words.{HasNone}
use Rattle.lucid_texts.proofs.Bytes.{one_cut, lacks_middle}
use Rattle.lucid_texts.proofs.WordLemmas.{apart}
use Rattle.lucid_cert_rules.proofs.WordsInFront.{join_behind, same_bytes}
use Rattle.lucid_cert_rules.proofs.RowsGiven.{row_tail, line_parts, head_lacks, context_of-parts, front_in, front_of-tail, behind_front, uses_of_tail}
use Rattle.lucid_cert_rules.proofs.RowsTaken.{context_read, front_read, front_numbers, uses_read}

-- a line has a blank
pub no_blank : (line : List ℕ) → HasNone 32 line → (r : WhyRow) → RowFits r → line ≡ row_line r → ⊥
no_blank line h r f e =
    let P : List ℕ → Type 0 = Lacks 32 in
    lacks_middle 32 (row_head r) (row_tail r) (subst P (e ∙ line_parts r) (recursion_from_All _ line h))

-- the first word of a context's line isn't a judgment's
pub no_judgment : (c : ContextRow) → row_head (context_row c) ≡ codes "j" → ⊥
no_judgment (Call b p k) h = apart _ _ refl h
no_judgment (Frozen b t) h = apart _ _ refl h

-- the parts of equal pairs
abbrev numbers_part : List ℕ × List (List ℕ) → List ℕ
numbers_part p = p.0

abbrev words_part : List ℕ × List (List ℕ) → List (List ℕ)
words_part p = p.1

abbrev pub judgment_by : Front → List ℕ → PlainValue → PlainJudgment
judgment_by f us v = record { node = f.node; context = f.context; time = f.time; space = f.space; uses = us; value = v }

same_judgment : (j k : PlainJudgment) → front_in j ≡ front_in k → j.uses ≡ k.uses → j.value ≡ k.value → j ≡ k
same_judgment j k f u v =
    ap (λ (x : Front). judgment_by x j.uses j.value) f ∙ (ap (λ (x : List ℕ). judgment_by (front_in k) x j.value) u ∙ ap (judgment_by (front_in k) k.uses) v)

-- What stands behind a judgment's first word is one judgment's.
one_tail : OneValue → (j k : PlainJudgment) → JudgmentFits j → JudgmentFits k → judgment_tail j ≡ judgment_tail k → j ≡ k
one_tail law j k f g e =
    let r = front_of-tail j f in
    let a = uses_of_tail (judgment_tail j) j (front_in j) (behind_front j) f refl r in
    let b = uses_of_tail (judgment_tail j) k (front_in j) (behind_front j) g e r in
    let s = same_Some (j.uses, words_of (value_text j.value)) (k.uses, words_of (value_text k.value)) (sym a.1 ∙ b.1) in
    same_judgment j k b.0 (ap numbers_part s) (law j.value k.value f.value g.value (same_bytes (value_text j.value) (value_text k.value) (ap words_part s)))

same_heads : (r s : WhyRow) → row_line r ≡ row_line s → (row_head r ≡ row_head s) × (row_tail r ≡ row_tail s)
same_heads r s e = one_cut 32 (row_head r) (row_head s) (row_tail r) (row_tail s) (head_lacks r) (head_lacks s) (sym (line_parts r) ∙ (e ∙ line_parts s))

one_row_by : OneValue → (r s : WhyRow) → RowFits r → RowFits s → row_head r ≡ row_head s → row_tail r ≡ row_tail s → r ≡ s
one_row_by law (context_row c) (context_row d) f g h t =
    ap context_row
    (same_Some c d
    ((sym (context_of-parts c f) ∙ (ap (λ (w : List ℕ). context_of w (row_tail (context_row c))) h ∙ ap (context_of (row_head (context_row d))) t))
    ∙ context_of-parts d g))
one_row_by law (context_row c) (judgment_row k) f g h t = absurd (no_judgment c h)
one_row_by law (judgment_row j) (context_row d) f g h t = absurd (no_judgment d (sym h))
one_row_by law (judgment_row j) (judgment_row k) f g h t = ap judgment_row (one_tail law j k f g t)

-- A line is one row's.
pub one_row : OneValue → (r s : WhyRow) → RowFits r → RowFits s → row_line r ≡ row_line s → r ≡ s
one_row law r s f g e =
    let p = same_heads r s e in one_row_by law r s f g p.0 p.1

none_by : (r : WhyRow) (w t : List ℕ) → RowFits r → bytes_eq w (codes "j") ≡ false → None ≡ context_of w t → w ≡ row_head r → t ≡ row_tail r → ⊥
none_by (context_row c) w t f d e h k = none-some c
    (e ∙ ((ap (λ (x : List ℕ). context_of x t) h ∙ ap (context_of (row_head (context_row c))) k) ∙ context_of-parts c f))
none_by (judgment_row j) w t f d e h k = let q = (bytes_eq-Decides w (codes "j")).1 h in cc

-- Where the first word is no judgment's, what is read is the line's row, if it is one's.
pub context_is_row : (line w t : List ℕ) (o : Option ContextRow) → line ≡ w ++ 32 ∷ t → HasNone 32 w → bytes_eq w (codes "j") ≡ false → o ≡ context_of w t
    → IsRowOf line (option_map context_row o)
context_is_row line w t (Some c) l h d e =
    let g = context_read w t c (sym e) in (g.0, l ∙ g.1)
context_is_row line w t None l h d e = λ r f k.
    let p = one_cut 32 w (row_head r) t (row_tail r) (recursion_from_All _ w h) (head_lacks r) (sym l ∙ (k ∙ line_parts r)) in none_by r w t f d e p.0 p.1

-- The bytes behind the first word are no judgment's where its front is none,
pub no_front : (t : List ℕ) → None ≡ front_of (words_of t) → IsTailOf t None
no_front t e = λ j h k. none-some (front_in j, behind_front j) (e ∙ (ap (λ (x : List ℕ). front_of (words_of x)) k ∙ front_of-tail j h))

-- where its uses are none,
pub no_uses : (t : List ℕ) (f : Front) (ws : List (List ℕ)) → Some (f, ws) ≡ front_of (words_of t) → take_uses f.count ws ≡ None → IsTailOf t None
no_uses t f ws r e = λ j h k.
    let a = uses_of_tail t j f ws h k (sym r) in none-some (j.uses, words_of (value_text j.value)) (sym e ∙ a.1)

-- and where no value stands behind them.
pub no_words : (t : List ℕ) (f : Front) (ws : List (List ℕ)) (us : List ℕ) → Some (f, ws) ≡ front_of (words_of t) → take_uses f.count ws ≡ Some (us, [])
    → IsTailOf t None
no_words t f ws us r e = λ j h k.
    let a = uses_of_tail t j f ws h k (sym r) in
    let s = same_Some (us, []) (j.uses, words_of (value_text j.value)) (sym e ∙ a.1) in
    let none : is_end (words_of (value_text j.value)) ≡ is_end [] = ap is_end (sym (ap words_part s)) in
    let some = is_end-words_of (value_text j.value) in
    cc

pub no_value : (t : List ℕ) (f : Front) (ws : List (List ℕ)) (us text : List ℕ) → Some (f, ws) ≡ front_of (words_of t)
    → take_uses f.count ws ≡ Some (us, words_of text) → IsValueOf text None → IsTailOf t None
no_value t f ws us text r e n = λ j h k.
    let a = uses_of_tail t j f ws h k (sym r) in
    let s = same_Some (us, words_of text) (j.uses, words_of (value_text j.value)) (sym e ∙ a.1) in
    n j.value h.value (same_bytes text (value_text j.value) (ap words_part s))

-- Where a value does, they are the judgment of front, uses and value.
pub tail_is : (t : List ℕ) (f : Front) (ws : List (List ℕ)) (us text : List ℕ) (v : Value) → Some (f, ws) ≡ front_of (words_of t)
    → take_uses f.count ws ≡ Some (us, words_of text) → IsValueOf text (Some v)
    → IsTailOf t (Some (judgment_by f us (plain v)))
tail_is t f ws us text v r e n =
    let d = front_read (words_of t) (f, ws) (sym r) in
    let g = uses_read f.count ws (us, words_of text) e in
    let count : map decimal (front_numbers f) ++ ws ≡ map decimal (f.node ∷ f.context ∷ f.time ∷ f.space ∷ length us ∷ us) ++ words_of text =
    ap (λ (x : List (List ℕ)). map decimal (front_numbers f) ++ x) g.2
    ∙ ap (λ (n : ℕ). map decimal (f.node ∷ f.context ∷ f.time ∷ f.space ∷ n ∷ us) ++ words_of text) (sym g.1) in
    let numbers = map decimal (f.node ∷ f.context ∷ f.time ∷ f.space ∷ length us ∷ us) in (
      record {
        node = d.0.node;
        context = d.0.context;
        shown = record { time = d.0.time; space = d.0.space; few = subst (λ n. n < 2 ^ 32) (sym g.1) d.0.count; uses = g.0 };
        value = n.0;
      },
      sym (join_with_byte-slice_split 32 t) ∙ (ap (join_with_byte 32) (d.1 ∙ count)
          ∙ (join_behind numbers text ∙ ap (λ (x : List ℕ). join_with_byte 32 (numbers ++ x ∷ [])) n.1)),
    )
