-- Streams after a step.
use Rattle.lucid_inputs.proofs.Common.{◌≡◌, ℕ, zero, suc, ◌<◌, true, false, List, [], ◌∷◌, ◌++◌, length, take, drop, map, cond, MatchOption, Option, None, Some, IfSome, option_map, subst, inl, inr, refl, sym, ap, ◌∙◌, arith, append_assoc, le_refl, IsTrue, ◌==◌, StartsWith, concat, append-nil, take_all, length-append, length-map, length-take-le, sum_by-append, cases_lt, PlainValue, eod, lines_of, element, element_of_line, line_value_of, Contents, advanced, Stream, Fits, all_bytes, fresh_stream, line_ends, last_element, line_with, with_end, with_line, with_part, map-append, drop_all, lt-leb}
use Rattle.std.proofs.Common.{Bool}
use Rattle.std.specs.List.{slice_get}
use Rattle.lucid_value.specs.Plain.{fault}
use Rattle.lucid_value.specs.Elements.{value_read, trimmed}
use Rattle.lucid_value.specs.Texts.{value_or_fault}
use Rattle.lucid_ports.specs.World.{unread}
use Rattle.lucid_inputs.specs.Streams.{line_element, whole_lines}
use Rattle.lucid_inputs.specs.Laws.{ElementsFit, FreshFits}
use Rattle.lucid_inputs.proofs.LineLemmas.{Cut, cut, cut_lines, cut_parts, lines_of-line, lines_of-part, without_end-line, without_end-part}

-- the elements of whole lines, of bytes that go on
given : (whole more : List (List ℕ)) (j : ℕ) (E : Type 0) → (E → more ≡ [])
    → MatchOption (slice_get (map line_element whole) j) (E → element_of_line (slice_get (whole ++ more) j) ≡ eod)
    (λ v. v ≡ element_of_line (slice_get (whole ++ more) j))
given [] more j E none = λ e. ap (λ ls. element_of_line (slice_get ls j)) (none e)
given (w ∷ whole) more zero E none = refl
given (w ∷ whole) more (suc j) E none = given whole more j E none

-- the same elements, of a stream that has read these lines whole
given_by : (elements : List PlainValue) (whole more lines : List (List ℕ)) (j : ℕ) (E : Type 0) → elements ≡ map line_element whole
    → lines ≡ whole ++ more → (E → more ≡ [])
    → MatchOption (slice_get elements j) (E → element_of_line (slice_get lines j) ≡ eod) (λ v. v ≡ element_of_line (slice_get lines j))
given_by elements whole more lines j E these joined none = rw (these, joined) (given whole more j E none)

-- What a stream holds whose end isn't met.
pub record Unended (s : Stream) (bytes : List ℕ) (whole : List (List ℕ)) (rest : List ℕ) : Type 0 where
  pub elements : s.elements ≡ map line_element whole
  pub partial : s.partial ≡ take 4194305 rest
  pub consumed : s.consumed ≡ length bytes

-- all lines of the bytes, the last without line end too
ended_elements : (s : Stream) (c : Contents) → s.ended ≡ true → Fits s c → s.elements ≡ map line_element (lines_of c.consumed)
ended_elements s c e f =
    f.elements
    ∙ ap (λ m. map line_element (take (whole_lines m c.consumed) (lines_of c.consumed))) e
    ∙ ap (map line_element) (take_all (length (lines_of c.consumed)) (lines_of c.consumed) (le_refl _))

unended : (s : Stream) (c : Contents) (k : Cut c.consumed) → s.ended ≡ false → Fits s c → Unended s c.consumed k.whole k.rest
unended s c k e f =
    let parts = cut_parts c.consumed k.whole k.rest (cut_lines c.consumed k) k.count in
    record {
      elements = f.elements ∙ ap (λ m. map line_element (take (whole_lines m c.consumed) (lines_of c.consumed))) e ∙ ap (map line_element) parts.0;
      partial = f.partial ∙ ap (λ m. take 4194305 (concat (drop (whole_lines m c.consumed) (lines_of c.consumed)))) e ∙ ap (take 4194305) parts.1;
      consumed = f.consumed;
    }

fits_unended : (s : Stream) (c : Contents) (whole : List (List ℕ)) (rest : List ℕ) → s.ended ≡ false → lines_of c.consumed ≡ whole ++ lines_of rest
    → line_ends c.consumed ≡ length whole → Unended s c.consumed whole rest → Fits s c
fits_unended s c whole rest e lines count u =
    let parts = cut_parts c.consumed whole rest lines count in
    record {
      elements = u.elements ∙ sym (ap (map line_element) parts.0) ∙ sym (ap (λ m. map line_element (take (whole_lines m c.consumed) (lines_of c.consumed))) e);
      partial = u.partial
          ∙ sym (ap (take 4194305) parts.1)
          ∙ sym (ap (λ m. take 4194305 (concat (drop (whole_lines m c.consumed) (lines_of c.consumed)))) e);
      consumed = u.consumed;
      ended = λ t. cc;
    }

fit_at : (s : Stream) (c : Contents) (m : Bool) → s.ended ≡ m → Fits s c → (j : ℕ)
    → MatchOption (slice_get s.elements j) (IsTrue s.ended → element_of_line (slice_get (lines_of (all_bytes c)) j) ≡ eod)
    (λ v. v ≡ element_of_line (slice_get (lines_of (all_bytes c)) j))
fit_at s c true e f j =
    let whole = ap lines_of (ap (λ l. c.consumed ++ l) (f.ended e) ∙ append-nil c.consumed) ∙ sym (append-nil (lines_of c.consumed)) in
    given_by s.elements (lines_of c.consumed) [] (lines_of (all_bytes c)) j (IsTrue s.ended) (ended_elements s c e f) whole (λ t. refl)
fit_at s c false e f j =
    let k = cut c.consumed in
    let u = unended s c k e f in
    given_by s.elements k.whole (lines_of (k.rest ++ c.left)) (lines_of (all_bytes c)) j (IsTrue s.ended) u.elements (k.lines c.left) (λ t. cc)

pub elements_fit : ElementsFit
unfolding element
elements_fit s c f j = fit_at s c s.ended refl f j

-- A line of more bytes than are read is `error`, whatever stands behind them.
long_line : (line : List ℕ) → 4194304 < length line → line_value_of line ≡ fault
unfolding line_value_of
long_line line long = ap (λ m. cond m (value_or_fault (value_read (trimmed line))) fault) (lt-leb _ _ long)

pub line_value_of-take : (line : List ℕ) → line_value_of (take 4194305 line) ≡ line_value_of line
line_value_of-take line =
    elim (cases_lt 4194304 (length line)) [
      | inl long ↦ long_line (take 4194305 line) (omega (arith, length-take-le 4194305 line (omega arith))) ∙ sym (long_line line long)
      | inr short ↦ ap line_value_of (take_all 4194305 line (omega arith))
    ]

-- only the first bytes of a line that goes on are kept
take-front : {X : Type 0} (n : ℕ) (xs ys : List X) → take n (take n xs ++ ys) ≡ take n (xs ++ ys)
take-front zero xs ys = refl
take-front (suc n) [] ys = refl
take-front (suc n) (x ∷ xs) ys = ap (λ r. x ∷ r) (take-front n xs ys)

-- the value of a partly read line that ends with more bytes
whole_value : (partial rest xs : List ℕ) → partial ≡ take 4194305 rest → line_value_of (line_with partial xs) ≡ line_value_of (rest ++ xs)
whole_value partial rest xs p =
    ap (λ r. line_value_of (take 4194305 (r ++ xs))) p ∙ ap line_value_of (take-front 4194305 rest xs) ∙ line_value_of-take (rest ++ xs)

-- the bytes consumed then are those before and these
consumed_then : (c : Contents) (bytes : List ℕ) → StartsWith c.left bytes → (advanced (length bytes) c).consumed ≡ c.consumed ++ bytes
consumed_then c bytes front = ap (λ r. c.consumed ++ r) front

pub fits_part : (s : Stream) (c : Contents) (xs : List ℕ) → s.ended ≡ false → Fits s c → StartsWith c.left xs → line_ends xs ≡ 0
    → Fits (with_part xs s) (advanced (length xs) c)
fits_part s c xs e f front plain =
    let k = cut c.consumed in
    let u = unended s c k e f in
    let then = consumed_then c xs front in
    fits_unended (with_part xs s) (advanced (length xs) c) k.whole (k.rest ++ xs) e (ap lines_of then ∙ k.lines xs)
    (ap line_ends then ∙ sum_by-append _ c.consumed xs ∙ omega (arith, plain, k.count))
    (
    record {
      elements = u.elements;
      partial = ap (λ p. take 4194305 (p ++ xs)) u.partial ∙ take-front 4194305 k.rest xs;
      consumed = omega (arith, u.consumed, ap length then, length-append c.consumed xs);
    }
    )

pub fits_line : (s : Stream) (c : Contents) (xs : List ℕ) → s.ended ≡ false → Fits s c → StartsWith c.left (xs ++ 10 ∷ []) → line_ends xs ≡ 0
    → Fits (with_line xs s) (advanced (length (xs ++ 10 ∷ [])) c)
fits_line s c xs e f front plain =
    let k = cut c.consumed in
    let u = unended s c k e f in
    let then = consumed_then c (xs ++ 10 ∷ []) front in
    let line = (k.rest ++ xs) ++ 10 ∷ [] in
    let none : line_ends (k.rest ++ xs) ≡ 0 = sum_by-append _ k.rest xs ∙ omega (arith, plain, k.plain) in
    let last : lines_of (k.rest ++ (xs ++ 10 ∷ [])) ≡ line ∷ [] = ap lines_of (sym (append_assoc k.rest xs (10 ∷ []))) ∙ lines_of-line (k.rest ++ xs) [] none in
    let value = whole_value s.partial k.rest xs u.partial ∙ sym (ap line_value_of (without_end-line (k.rest ++ xs) none)) in
    fits_unended (with_line xs s) (advanced (length (xs ++ 10 ∷ [])) c) (k.whole ++ line ∷ []) [] e
    (ap lines_of then ∙ k.lines (xs ++ 10 ∷ []) ∙ ap (λ r. k.whole ++ r) last ∙ sym (append-nil (k.whole ++ line ∷ [])))
    (ap line_ends then
    ∙ sum_by-append _ c.consumed (xs ++ 10 ∷ [])
    ∙ omega (arith, plain, k.count, sum_by-append (λ b. cond (b == 10) 1 0) xs (10 ∷ []), length-append k.whole (line ∷ [])))
    (
    record {
      elements = ap (λ es. es ++ line_value_of (line_with s.partial xs) ∷ []) u.elements
          ∙ ap (λ v. map line_element k.whole ++ v ∷ []) value
          ∙ sym (map-append line_element k.whole (line ∷ []));
      partial = refl;
      consumed = omega (arith, u.consumed, ap length then, length-append c.consumed (xs ++ 10 ∷ []), length-append xs (10 ∷ []));
    }
    )

last_is : (rest : List ℕ) → line_ends rest ≡ 0 → last_element (take 4194305 rest) ≡ map line_element (lines_of rest)
last_is [] plain = refl
last_is (b ∷ bs) plain =
    ap (λ v. v ∷ []) (whole_value (take 4194305 (b ∷ bs)) (b ∷ bs) [] refl ∙ ap line_value_of (append-nil (b ∷ bs))
    ∙ sym (ap line_value_of (without_end-part (b ∷ bs) plain)))
    ∙ sym (ap (map line_element) (lines_of-part b bs plain))

pub fits_end : (s : Stream) (c : Contents) → s.ended ≡ false → Fits s c → c.left ≡ [] → Fits (with_end s) c
fits_end s c e f none =
    let k = cut c.consumed in
    let u = unended s c k e f in
    let lines = lines_of c.consumed in
    record {
      elements = ap (λ es. es ++ last_element s.partial) u.elements
          ∙ ap (λ p. map line_element k.whole ++ last_element p) u.partial
          ∙ ap (λ r. map line_element k.whole ++ r) (last_is k.rest k.plain)
          ∙ sym (map-append line_element k.whole (lines_of k.rest))
          ∙ ap (map line_element) (sym (cut_lines c.consumed k) ∙ sym (take_all (length lines) lines (le_refl _)));
      partial = sym (ap (λ ls. take 4194305 (concat ls)) (drop_all (length lines) lines (le_refl _)));
      consumed = u.consumed;
      ended = λ t. none;
    }

-- the elements are as many as the line ends
pub elements_are : (s : Stream) (c : Contents) → s.ended ≡ false → Fits s c → length s.elements ≡ line_ends c.consumed
elements_are s c e f =
    let k = cut c.consumed in
    let u = unended s c k e f in
    ap length u.elements ∙ length-map k.whole line_element ∙ sym k.count

fresh_fits_bytes : (number : ℕ) (bytes : List ℕ) → Fits (fresh_stream number) (unread bytes)
fresh_fits_bytes number bytes = record { elements = refl; partial = refl; consumed = refl; ended = λ t. cc }

pub fresh_fits : FreshFits
fresh_fits number bytes place fresh = subst (λ o. IfSome o (λ c. Fits (fresh_stream number) c)) (sym fresh.contents) (at bytes)
  where
    at : (o : Option (List ℕ)) → IfSome (option_map unread o) (λ c. Fits (fresh_stream number) c)
    at None = tt
    at (Some b) = fresh_fits_bytes number b
