-- The lines of bytes, one byte or one line after another.
use Rattle.lucid_inputs.proofs.Common.{◌≡◌, ℕ, zero, suc, ◌+◌, ◌<◌, ◌≤◌, true, false, List, [], ◌∷◌, ◌++◌, length, take, drop, cond, refl, sym, ap, ◌∙◌, arith, ◌==◌, concat, append-nil, take_at, lines_of, line_ends, drop_at, sum_by-cons}
use Rattle.std.proofs.Common.{Bool}
use Rattle.lucid_value.specs.Lines.{without_end}

plain_head_at : (m : Bool) (n : ℕ) → cond m 1 0 + n ≡ 0 → (m ≡ false) × (n ≡ 0)
plain_head_at true n e = absurd (omega arith)
plain_head_at false n e = (refl, omega arith)

-- where no line end stands, the first byte is none
plain_head : (b : ℕ) (bs : List ℕ) → line_ends (b ∷ bs) ≡ 0 → ((b == 10) ≡ false) × (line_ends bs ≡ 0)
plain_head b bs e = plain_head_at (b == 10) (line_ends bs) (sym (sum_by-cons _ b bs) ∙ e)

-- a byte in front of the first line
abbrev onto : ℕ → List (List ℕ) → List (List ℕ)
onto b [] = (b ∷ []) ∷ []
onto b (line ∷ more) = (b ∷ line) ∷ more

lines_of-end : (b : ℕ) (bs : List ℕ) → (b == 10) ≡ true → lines_of (b ∷ bs) ≡ (b ∷ []) ∷ lines_of bs
lines_of-end b bs e = rw e refl

lines_of-onto : (b : ℕ) (bs : List ℕ) → (b == 10) ≡ false → lines_of (b ∷ bs) ≡ onto b (lines_of bs)
lines_of-onto b bs e =
    elim (lines_of bs) as (λ ls. lines_of bs ≡ ls → lines_of (b ∷ bs) ≡ onto b ls) [ [] ↦ λ h. rw (e, h) refl | line ∷ more ↦ λ h. rw (e, h) refl ] refl

-- bytes with no line end are one line
pub lines_of-part : (b : ℕ) (bs : List ℕ) → line_ends (b ∷ bs) ≡ 0 → lines_of (b ∷ bs) ≡ (b ∷ bs) ∷ []
lines_of-part b [] e = lines_of-onto b [] (plain_head b [] e).0
lines_of-part b (c ∷ cs) e = let h = plain_head b (c ∷ cs) e in lines_of-onto b (c ∷ cs) h.0 ∙ ap (onto b) (lines_of-part c cs h.1)

pub lines_of-line : (xs rest : List ℕ) → line_ends xs ≡ 0 → lines_of (xs ++ 10 ∷ rest) ≡ (xs ++ 10 ∷ []) ∷ lines_of rest
lines_of-line [] rest e = refl
lines_of-line (b ∷ bs) rest e = let h = plain_head b bs e in lines_of-onto b (bs ++ 10 ∷ rest) h.0 ∙ ap (onto b) (lines_of-line bs rest h.1)

pub without_end-part : (xs : List ℕ) → line_ends xs ≡ 0 → without_end xs ≡ xs
without_end-part [] e = refl
without_end-part (b ∷ bs) e =
    let h = plain_head b bs e in ap (λ m. cond m [] (b ∷ without_end bs)) h.0 ∙ ap (λ r. b ∷ r) (without_end-part bs h.1)

pub without_end-line : (xs : List ℕ) → line_ends xs ≡ 0 → without_end (xs ++ 10 ∷ []) ≡ xs
without_end-line [] e = refl
without_end-line (b ∷ bs) e =
    let h = plain_head b bs e in ap (λ m. cond m [] (b ∷ without_end (bs ++ 10 ∷ []))) h.0 ∙ ap (λ r. b ∷ r) (without_end-line bs h.1)

concat-onto : (b : ℕ) (ls : List (List ℕ)) → concat (onto b ls) ≡ b ∷ concat ls
concat-onto b [] = refl
concat-onto b (l ∷ ls) = refl

concat_at : (b : ℕ) (bs : List ℕ) (m : Bool) → (b == 10) ≡ m → concat (lines_of bs) ≡ bs → concat (lines_of (b ∷ bs)) ≡ b ∷ bs
concat_at b bs true e h = ap concat (lines_of-end b bs e) ∙ ap (λ r. b ∷ r) h
concat_at b bs false e h = ap concat (lines_of-onto b bs e) ∙ concat-onto b (lines_of bs) ∙ ap (λ r. b ∷ r) h

-- the lines joined are the bytes
pub concat-lines_of : (bytes : List ℕ) → concat (lines_of bytes) ≡ bytes
concat-lines_of [] = refl
concat-lines_of (b ∷ bs) = concat_at b bs (b == 10) refl (concat-lines_of bs)

-- Bytes as their whole lines, each with its line end, and what stands behind the last line end.
pub record Cut (bytes : List ℕ) : Type 0 where
  pub whole : List (List ℕ)
  pub rest : List ℕ
  pub count : line_ends bytes ≡ length whole
  pub plain : line_ends rest ≡ 0
  pub lines : (more : List ℕ) → lines_of (bytes ++ more) ≡ whole ++ lines_of (rest ++ more)

line_ends-end : (b : ℕ) (bs : List ℕ) → (b == 10) ≡ true → line_ends (b ∷ bs) ≡ suc (line_ends bs)
line_ends-end b bs e = sum_by-cons _ b bs ∙ ap (λ m. cond m 1 0 + line_ends bs) e ∙ omega arith

line_ends-plain : (b : ℕ) (bs : List ℕ) → (b == 10) ≡ false → line_ends (b ∷ bs) ≡ line_ends bs
line_ends-plain b bs e = sum_by-cons _ b bs ∙ ap (λ m. cond m 1 0 + line_ends bs) e ∙ omega arith

cut_onto : (b : ℕ) (bs : List ℕ) (whole : List (List ℕ)) (rest : List ℕ) → (b == 10) ≡ false → line_ends bs ≡ length whole → line_ends rest ≡ 0
    → ((more : List ℕ) → lines_of (bs ++ more) ≡ whole ++ lines_of (rest ++ more)) → Cut (b ∷ bs)
cut_onto b bs [] rest n count plain lines = record {
  whole = [];
  rest = b ∷ rest;
  count = line_ends-plain b bs n ∙ count;
  plain = line_ends-plain b rest n ∙ plain;
  lines = λ more. lines_of-onto b (bs ++ more) n ∙ ap (onto b) (lines more) ∙ sym (lines_of-onto b (rest ++ more) n);
}
cut_onto b bs (l ∷ ls) rest n count plain lines = record {
  whole = (b ∷ l) ∷ ls;
  rest = rest;
  count = line_ends-plain b bs n ∙ count;
  plain = plain;
  lines = λ more. lines_of-onto b (bs ++ more) n ∙ ap (onto b) (lines more);
}

cut_at : (b : ℕ) (bs : List ℕ) (m : Bool) → (b == 10) ≡ m → Cut bs → Cut (b ∷ bs)
cut_at b bs true e c = record {
  whole = (b ∷ []) ∷ c.whole;
  rest = c.rest;
  count = line_ends-end b bs e ∙ ap suc c.count;
  plain = c.plain;
  lines = λ more. lines_of-end b (bs ++ more) e ∙ ap (λ ls. (b ∷ []) ∷ ls) (c.lines more);
}
cut_at b bs false e c = cut_onto b bs c.whole c.rest e c.count c.plain c.lines

pub cut : (bytes : List ℕ) → Cut bytes
cut [] = record { whole = []; rest = []; count = refl; plain = refl; lines = λ more. refl }
cut (b ∷ bs) = cut_at b bs (b == 10) refl (cut bs)

-- the whole lines and what stands behind them, in bytes that are cut so
pub cut_parts : (bytes : List ℕ) (whole : List (List ℕ)) (rest : List ℕ) → lines_of bytes ≡ whole ++ lines_of rest → line_ends bytes ≡ length whole
    → (take (line_ends bytes) (lines_of bytes) ≡ whole) × (concat (drop (line_ends bytes) (lines_of bytes)) ≡ rest)
cut_parts bytes whole rest lines count = (
  ap (take (line_ends bytes)) lines ∙ take_at whole (lines_of rest) (line_ends bytes) (sym count),
  ap (λ ls. concat (drop (line_ends bytes) ls)) lines ∙ ap concat (drop_at whole (lines_of rest) (line_ends bytes) (sym count)) ∙ concat-lines_of rest,
)

-- the lines of the bytes alone
pub cut_lines : (bytes : List ℕ) (c : Cut bytes) → lines_of bytes ≡ c.whole ++ lines_of c.rest
cut_lines bytes c = ap lines_of (sym (append-nil bytes)) ∙ c.lines [] ∙ ap (λ r. c.whole ++ lines_of r) (append-nil c.rest)

onto_past : (b : ℕ) (ls : List (List ℕ)) (n j : ℕ) → n < length (concat (take (suc j) ls)) → suc n < length (concat (take (suc j) (onto b ls)))
onto_past b [] n j h = absurd (omega arith)
onto_past b (l ∷ ls) n j h = omega arith

first_past : (b : ℕ) (ls : List (List ℕ)) (j : ℕ) → 0 < length (concat (take (suc j) (onto b ls)))
first_past b [] j = omega arith
first_past b (l ∷ ls) j = omega arith

none_past : (m : ℕ) (ms : List ℕ) (j : ℕ) (e : Bool) → (m == 10) ≡ e → 0 < length (concat (take (suc j) (lines_of (m ∷ ms))))
none_past m ms j true e = rw (lines_of-end m ms e) (omega arith)
none_past m ms j false e = rw (lines_of-onto m ms e) (first_past m (lines_of ms) j)

one_past : (b : ℕ) (ys : List ℕ) (n k j : ℕ) (e : Bool) → (b == 10) ≡ e → cond e 1 0 + k ≤ j
    → ((i : ℕ) → k ≤ i → n < length (concat (take (suc i) (lines_of ys)))) → suc n < length (concat (take (suc j) (lines_of (b ∷ ys))))
one_past b ys n k zero true e h past = absurd (omega arith)
one_past b ys n k (suc i) true e h past = let far = past i (omega arith) in rw (lines_of-end b ys e) (omega arith)
one_past b ys n k j false e h past = rw (lines_of-onto b ys e) (onto_past b (lines_of ys) n j (past j (omega arith)))

-- The bytes hold at most j line ends, so a byte behind them stands in line j at the latest.
pub end_past : (bytes : List ℕ) (m : ℕ) (ms : List ℕ) (j : ℕ) → line_ends bytes ≤ j → length bytes < length (concat (take (suc j) (lines_of (bytes ++ m ∷ ms))))
end_past [] m ms j h = none_past m ms j (m == 10) refl
end_past (b ∷ bs) m ms j h =
    one_past b (bs ++ m ∷ ms) (length bs) (line_ends bs) j (b == 10) refl (omega (arith, sum_by-cons (λ x. cond (x == 10) 1 0) b bs))
    (λ i few. end_past bs m ms i few)
