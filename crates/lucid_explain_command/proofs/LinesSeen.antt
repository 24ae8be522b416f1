-- What one byte more changes of what is seen in bytes, and so that what is noted byte by byte is what is seen in all of them.
use Rattle.std.proofs.Common.{◌≡◌, ℕ, suc, ◌+◌, ◌<◌, Bool, true, false, cond, List, [], ◌∷◌, ◌++◌, length, take, Option, Some, None, refl, sym, ap, subst, ◌∙◌, arith, append_assoc, append-nil, length-append, inl, inr}
use Rattle.std.specs.Prelude.{◌==◌, nat_eq, nat_lt, ◌&&◌, if◌then◌else◌, codes, fold, slice_index, option_map}
use Rattle.std.specs.List.{slice_split, onto_first, position, position_from, starts_with}
use Rattle.std.specs.Option.{option_or}
use Rattle.std.specs.Cmp.Lexicographic.{pointwise, unequal}
use Rattle.std.proofs.lemmas.Bool.Decides.{nat_tests}
use Rattle.std.proofs.lemmas.Bool.{cases_Bool, cases_eq, eq-eqb, eqb-true, lt-ltb, ne_eqb}
use Rattle.std.proofs.lemmas.Iterator.Adapters.{position_from-zero}
use Rattle.std.proofs.lemmas.List.Splits.{length-slice_split}
use Rattle.lucid_lists.proofs.Numbers.{equality_turned}
use Rattle.lucid_ports.specs.Writing.{with_front}
use Rattle.lucid_texts.specs.TextLines.{all_but_last, whole_lines}
use Rattle.lucid_explain_command.specs.Noting.{is_error, counted}
use Rattle.lucid_explain_command.specs.Watching.{last_part, open_line, matched_in, Marks, marks_in, AreMarks, matched_more, is_whole, first_of, note}

-- bytes have one part at least
some_parts : (bs : List ℕ) → 0 < length (slice_split (λ b. b == 10) bs)
some_parts bs = omega (arith, length-slice_split (λ b. b == 10) bs)

-- A line end begins a part of its own.
end_step : (t : Bool) (x : ℕ) (xs ys : List (List ℕ)) → 0 < length xs → ys ≡ xs ++ [] ∷ []
    → cond t ([] ∷ ys) (onto_first x ys) ≡ cond t ([] ∷ xs) (onto_first x xs) ++ [] ∷ []
end_step true x xs ys h e = ap (λ (z : List (List ℕ)). [] ∷ z) e
end_step false x [] ys h e = absurd (omega arith)
end_step false x (w ∷ ws) ys h e = ap (λ (z : List (List ℕ)). onto_first x z) e

split_end : (bs : List ℕ) → slice_split (λ b. b == 10) (bs ++ 10 ∷ []) ≡ slice_split (λ b. b == 10) bs ++ [] ∷ []
split_end [] = refl
split_end (x ∷ xs) = end_step (x == 10) x (slice_split (λ b. b == 10) xs) _ (some_parts xs) (split_end xs)

-- Another byte stands behind the last part.
abbrev grown : (byte : ℕ) → List (List ℕ) → List (List ℕ)
grown b [] = []
grown b (w ∷ []) = (w ++ b ∷ []) ∷ []
grown b (w ∷ v ∷ ws) = w ∷ grown b (v ∷ ws)

grown_step : (t : Bool) (x b : ℕ) (xs ys : List (List ℕ)) → 0 < length xs → ys ≡ grown b xs
    → cond t ([] ∷ ys) (onto_first x ys) ≡ grown b (cond t ([] ∷ xs) (onto_first x xs))
grown_step t x b [] ys h e = absurd (omega arith)
grown_step true x b (w ∷ ws) ys h e = ap (λ (z : List (List ℕ)). [] ∷ z) e
grown_step false x b (w ∷ []) ys h e = ap (λ (z : List (List ℕ)). onto_first x z) e
grown_step false x b (w ∷ v ∷ ws) ys h e = ap (λ (z : List (List ℕ)). onto_first x z) e

split_more : (b : ℕ) (bs : List ℕ) → (b == 10) ≡ false → slice_split (λ b. b == 10) (bs ++ b ∷ []) ≡ grown b (slice_split (λ b. b == 10) bs)
split_more b [] n = ap (λ (t : Bool). cond t ([] ∷ [] ∷ []) ((b ∷ []) ∷ [])) n
split_more b (x ∷ xs) n = grown_step (x == 10) x b (slice_split (λ b. b == 10) xs) _ (some_parts xs) (split_more b xs n)

-- the whole parts and the last one
but_last_end : (xs : List (List ℕ)) → 0 < length xs → all_but_last (xs ++ [] ∷ []) ≡ all_but_last xs ++ last_part xs ∷ []
but_last_end [] h = absurd (omega arith)
but_last_end (w ∷ []) h = refl
but_last_end (w ∷ v ∷ ws) h = ap (λ (z : List (List ℕ)). w ∷ z) (but_last_end (v ∷ ws) (omega arith))

last_end : (xs : List (List ℕ)) → last_part (xs ++ [] ∷ []) ≡ []
last_end [] = refl
last_end (w ∷ []) = refl
last_end (w ∷ v ∷ ws) = last_end (v ∷ ws)

but_last_grown : (b : ℕ) (xs : List (List ℕ)) → all_but_last (grown b xs) ≡ all_but_last xs
but_last_grown b [] = refl
but_last_grown b (w ∷ []) = refl
but_last_grown b (w ∷ v ∷ []) = refl
but_last_grown b (w ∷ v ∷ u ∷ us) = ap (λ (z : List (List ℕ)). w ∷ z) (but_last_grown b (v ∷ u ∷ us))

last_grown : (b : ℕ) (xs : List (List ℕ)) → 0 < length xs → last_part (grown b xs) ≡ last_part xs ++ b ∷ []
last_grown b [] h = absurd (omega arith)
last_grown b (w ∷ []) h = refl
last_grown b (w ∷ v ∷ []) h = refl
last_grown b (w ∷ v ∷ u ∷ us) h = last_grown b (v ∷ u ∷ us) (omega arith)

-- A line end makes the open line whole.
whole_end : (bs : List ℕ) → whole_lines (bs ++ 10 ∷ []) ≡ whole_lines bs ++ open_line bs ∷ []
whole_end bs = ap all_but_last (split_end bs) ∙ but_last_end (slice_split (λ b. b == 10) bs) (some_parts bs)

open_end : (bs : List ℕ) → open_line (bs ++ 10 ∷ []) ≡ []
open_end bs = ap last_part (split_end bs) ∙ last_end (slice_split (λ b. b == 10) bs)

-- Another byte makes it longer.
whole_same : (b : ℕ) (bs : List ℕ) → (b == 10) ≡ false → whole_lines (bs ++ b ∷ []) ≡ whole_lines bs
whole_same b bs n = ap all_but_last (split_more b bs n) ∙ but_last_grown b (slice_split (λ b. b == 10) bs)

open_more : (b : ℕ) (bs : List ℕ) → (b == 10) ≡ false → open_line (bs ++ b ∷ []) ≡ open_line bs ++ b ∷ []
open_more b bs n = ap last_part (split_more b bs n) ∙ last_grown b (slice_split (λ b. b == 10) bs) (some_parts bs)

-- Of a text one byte more is the front, where the front was it and this is the next byte.
less_suc : (m n : ℕ) → nat_lt m n ≡ nat_lt (suc m) (suc n)
less_suc m n = grind (arith, nat_tests)

and_three : (a b c : Bool) → (a && (b && c)) ≡ ((a && b) && c)
and_three true b c = refl
and_three false b c = refl

and_true : (a : Bool) → (a && true) ≡ a
and_true true = refl
and_true false = refl

front_more : (text line : List ℕ) (b : ℕ)
    → starts_with nat_eq text (line ++ b ∷ []) ≡ (starts_with nat_eq text line && (nat_lt (length line) (length text) && (slice_index text (length line) == b)))
front_more [] [] b = refl
front_more (t ∷ ts) [] b =
    and_true (nat_eq b t) ∙ (equality_turned b t ∙ ap (λ (z : Bool). z && (t == b)) (sym (lt-ltb 0 (length (t ∷ ts)) (omega arith))))
front_more [] (l ∷ ls) b = refl
front_more (t ∷ ts) (l ∷ ls) b =
    let next = slice_index ts (length ls) == b in
    ap (λ (z : Bool). nat_eq l t && z)
    (front_more ts ls b ∙ ap (λ (z : Bool). starts_with nat_eq ts ls && (z && next)) (less_suc (length ls) (length ts)))
    ∙ and_three (nat_eq l t) (starts_with nat_eq ts ls) (nat_lt (suc (length ls)) (suc (length ts)) && next)

grows : (s : Bool) (n m b : ℕ) (t : Bool) → t ≡ (s && (nat_lt n 5 && (slice_index (codes "error") n == b))) → m ≡ n + 1
    → matched_more (if s then Some n else None) b ≡ (if t then Some m else None)
grows true n m b t e f = ap (λ (z : Bool). if z then Some (n + 1) else None) (sym e) ∙ ap (λ (k : ℕ). if t then Some k else None) (sym f)
grows false n m b t e f = ap (λ (z : Bool). if z then Some m else None) (sym e)

matched_grows : (line : List ℕ) (b : ℕ) → matched_more (matched_in line) b ≡ matched_in (line ++ b ∷ [])
matched_grows line b =
    grows (starts_with nat_eq (codes "error") line) (length line) (length (line ++ b ∷ [])) b _ (front_more (codes "error") line b)
    (omega (arith, length-append line (b ∷ [])))

-- The open line is `error` where all five bytes are matched.
whole_so : (s : Bool) (n : ℕ) → n ≡ 5 → is_whole (if s then Some n else None) ≡ s
whole_so true n e = eq-eqb n 5 e
whole_so false n e = refl

whole_not : (s : Bool) (n : ℕ) → (n ≡ 5 → ⊥) → is_whole (if s then Some n else None) ≡ false
whole_not true n h = ne_eqb n 5 h
whole_not false n h = refl

whole_is : (line : List ℕ) → is_whole (matched_in line) ≡ is_error line
whole_is line =
    let s = starts_with nat_eq (codes "error") line in
    elim (cases_eq (length line) 5) [
      | inl e ↦ whole_so s (length line) e ∙ ap (λ (k : ℕ). pointwise nat_eq line (take k (codes "error"))) e
      | inr h ↦ whole_not s (length line) h ∙ sym (unequal nat_eq line (codes "error") h)
    ]

-- One line more is the first that passes, where none did and this one does.
passed_on : (t : Bool) (k : ℕ) (a b o : Option ℕ) → a ≡ option_or b o → cond t (Some k) a ≡ option_or (cond t (Some k) b) o
passed_on true k a b o e = refl
passed_on false k a b o e = e

from_more : (p : List ℕ → Bool) (k : ℕ) (xs : List (List ℕ)) (y : List ℕ)
    → position_from p k (xs ++ y ∷ []) ≡ option_or (position_from p k xs) (if p y then Some (k + length xs) else None)
from_more p k [] y = let e : k ≡ k + length {A = List ℕ} [] = omega arith in ap (λ (n : ℕ). if p y then Some n else None) e
from_more p k (x ∷ xs) y =
    let e : k + 1 + length xs ≡ k + length (x ∷ xs) = omega arith in
    let f = from_more p (k + 1) xs y ∙ ap (λ (n : ℕ). option_or (position_from p (k + 1) xs) (if p y then Some n else None)) e in
    passed_on (p x) k _ _ _ f

position_more : (p : List ℕ → Bool) (xs : List (List ℕ)) (y : List ℕ)
    → position p (xs ++ y ∷ []) ≡ option_or (position p xs) (if p y then Some (length xs) else None)
position_more p xs y =
    let e : 0 + length xs ≡ length xs = omega arith in
    position_from-zero p (xs ++ y ∷ [])
    ∙ from_more p 0 xs y
    ∙ ap (λ (n : ℕ). option_or (position_from p 0 xs) (if p y then Some n else None)) e
    ∙ ap (λ (o : Option ℕ). option_or o (if p y then Some (length xs) else None)) (sym (position_from-zero p xs))

first_so : (o : Option ℕ) (n : ℕ) (matched : Option ℕ) (t : Bool) → is_whole matched ≡ t
    → first_of (option_map counted o) (counted n) matched ≡ option_map counted (option_or o (if t then Some n else None))
first_so (Some k) n matched t e = refl
first_so None n matched true e = ap (λ (z : Bool). if z then Some (counted n) else None) e
first_so None n matched false e = ap (λ (z : Bool). if z then Some (counted n) else None) e

first_grows : (ls : List (List ℕ)) (l : List ℕ)
    → first_of (option_map counted (position is_error ls)) (counted (length ls)) (matched_in l) ≡ option_map counted (position is_error (ls ++ l ∷ []))
first_grows ls l =
    first_so (position is_error ls) (length ls) (matched_in l) (is_error l) (whole_is l)
    ∙ ap (λ (o : Option ℕ). option_map counted o) (sym (position_more is_error ls l))

-- One byte more.
abbrev marks_of : (lines : ℕ) → (matched first : Option ℕ) → Marks
marks_of l m f = record { lines = l; matched = m; first = f }

marks : {l m : ℕ} {a b c d : Option ℕ} → l ≡ m → a ≡ b → c ≡ d → marks_of l a c ≡ marks_of m b d
marks e f g = λ i. marks_of (e i) (f i) (g i)

note_end : (bs : List ℕ) → note (marks_in bs) 10 ≡ marks_in (bs ++ 10 ∷ [])
note_end bs =
    let ls = whole_lines bs in
    let l = open_line bs in
    let more : counted (counted (length ls) + 1) ≡ counted (length (ls ++ l ∷ [])) = omega (arith, length-append ls (l ∷ [])) in
    marks (more ∙ ap (λ (z : List (List ℕ)). counted (length z)) (sym (whole_end bs)))
    (ap matched_in (sym (open_end bs)))
    (first_grows ls l ∙ ap (λ (z : List (List ℕ)). option_map counted (position is_error z)) (sym (whole_end bs)))

note_other : (b : ℕ) (bs : List ℕ) → (b == 10) ≡ false → note (marks_in bs) b ≡ marks_in (bs ++ b ∷ [])
note_other b bs n =
    let m = marks_in bs in
    let end = marks_of (counted (m.lines + 1)) (Some 0) (first_of m.first m.lines m.matched) in
    let other = marks_of m.lines (matched_more m.matched b) m.first in
    ap (λ (t : Bool). if t then end else other) n
    ∙ marks (ap (λ (z : List (List ℕ)). counted (length z)) (sym (whole_same b bs n)))
    (matched_grows (open_line bs) b ∙ ap matched_in (sym (open_more b bs n)))
    (ap (λ (z : List (List ℕ)). option_map counted (position is_error z)) (sym (whole_same b bs n)))

note_more : (b : ℕ) (bs : List ℕ) → note (marks_in bs) b ≡ marks_in (bs ++ b ∷ [])
note_more b bs =
    let P : ℕ → Type 0 = λ z. note (marks_in bs) z ≡ marks_in (bs ++ z ∷ []) in
    elim (cases_Bool (b == 10)) [
      | inl e ↦ subst P (sym (eqb-true b 10 e)) (note_end bs)
      | inr n ↦ note_other b bs n
    ]

-- What is noted byte by byte is what is seen in all the bytes.
marks_more : (rest bs : List ℕ) → fold note (marks_in bs) rest ≡ marks_in (bs ++ rest)
marks_more [] bs = ap marks_in (sym (append-nil bs))
marks_more (b ∷ rest) bs =
    ap (λ (m : Marks). fold note m rest) (note_more b bs) ∙ marks_more rest (bs ++ b ∷ []) ∙ ap marks_in (append_assoc bs (b ∷ []) rest)

-- so behind a write
pub kept_more : (written : Option (List ℕ)) (old new : Marks) (k : ℕ) (piece : List ℕ) → AreMarks written old → new ≡ fold note old (take k piece)
    → AreMarks (with_front k piece written) new
kept_more None old new k piece kept e = tt
kept_more (Some bs) old new k piece kept e = e ∙ ap (λ (m : Marks). fold note m (take k piece)) kept ∙ marks_more (take k piece) bs
