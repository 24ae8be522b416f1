-- What a stream takes of a piece, and the values of its lines.
use Rattle.lucid_inputs.proofs.Common.{◌≡◌, ℕ, zero, suc, ◌+◌, ◌-◌, ◌<◌, ◌≤◌, true, false, List, [], ◌∷◌, ◌++◌, length, take, map, slice_set, Option, None, Some, IfSome, option_map, Ok, inl, inr, refl, sym, ap, subst, ◌∙◌, arith, add-one, le_refl, ◌==◌, Result, StartsWith, length-take-le, take_all, take-take, cases_lt, eqb-true, same_Some, PlainValue, element, element_of_line, line_value_of, Contents, Place, advanced, Stream, line_ends, Step, step_bytes, Takes, takes_part, takes_line, line_with, with_end, min, get_or, IfOk, take_more, count_by_more_no, false_from_ne_true}
use Rattle.std.proofs.Common.{Bool}
use Rattle.std.specs.Prelude.{slice_get}
use Rattle.memchr.specs.Find.{Nowhere, Passes, is_byte}
use Rattle.lucid_value.specs.Laws.{OneElement}
use Rattle.lucid_value.specs.Lines.{IsElement, IsElementOf, IsLineValue}
use Rattle.lucid_ports.specs.World.{IsShown}
use denote.Ref.{Bor}
use Rattle.lucid_ports.specs.declared.fault.PortFault.{PortFault}
use Rattle.lucid_inputs.specs.Steps.{with_element}
use Rattle.lucid_inputs.proofs.LineLemmas.{lines_of-line, without_end-line}

-- the value that a line with no line end in it reads as
pub line_value_is : OneElement → (line : List ℕ) (v : PlainValue) → line_ends line ≡ 0 → IsLineValue line v → v ≡ line_value_of line
unfolding element
line_value_is one line v plain is =
    let lines = ap (λ ls. slice_get ls 0) (lines_of-line line [] plain) in
    let these : IsElement (line ++ 10 ∷ []) 0 v =
    subst (λ o. IsElementOf o v) (sym lines) (subst (λ l. IsLineValue l v) (sym (without_end-line line plain)) is) in
    one (line ++ 10 ∷ []) 0 v these ∙ ap element_of_line lines ∙ ap line_value_of (without_end-line line plain)

take_least : {X : Type 0} (n k : ℕ) (ys : List X) → k ≡ min (length ys) n → take k ys ≡ take n ys
take_least n k ys least =
    elim (cases_lt n (length ys)) [
      | inl long ↦ let same : k ≡ n = omega arith in ap (λ m. take m ys) same
      | inr short ↦ take_all k ys (omega arith) ∙ sym (take_all n ys short)
    ]

-- as many more bytes as there is room for
pub kept_front : {X : Type 0} (n k : ℕ) (xs ys : List X) → length xs ≤ n → k ≡ min (length ys) (n - length xs) → xs ++ take k ys ≡ take n (xs ++ ys)
kept_front n k [] ys within least = take_least n k ys (omega arith)
kept_front zero k (x ∷ xs) ys within least = absurd (omega arith)
kept_front (suc n) k (x ∷ xs) ys within least = ap (λ r. x ∷ r) (kept_front n k xs ys (omega arith) (omega arith))

-- no line end stands before the first one
pub none_before : (bytes : List ℕ) (k : ℕ) → k ≤ length bytes → Nowhere (Passes (is_byte 10) bytes) 0 k → line_ends (take k bytes) ≡ 0
none_before bytes zero within none = refl
none_before bytes (suc k) within none =
    let this = false_from_ne_true (get_or bytes k 0 == 10) (none k (omega arith) (omega arith)) in
    let more = count_by_more_no (λ b. b == 10) bytes k 0 (omega arith) this in
    ap (λ n. line_ends (take n bytes)) (sym (add-one k)) ∙ more ∙ none_before bytes k (omega arith) (λ j low high. none j low (omega arith))

pub none_at_all : (bytes : List ℕ) → Nowhere (Passes (is_byte 10) bytes) 0 (length bytes) → line_ends bytes ≡ 0
none_at_all bytes none = ap line_ends (sym (take_all (length bytes) bytes (le_refl _))) ∙ none_before bytes (length bytes) (le_refl _) none

-- the stream with another number of bytes consumed
abbrev with_consumed : ℕ → Stream → Stream
with_consumed n s = record s { consumed = n }

-- the stream with its end met
abbrev now_ended : Stream → Stream
now_ended s = record s { ended = true }

-- all bytes are taken, and no line ends
pub taken_part : (s : Stream) (bytes partial : List ℕ) → line_ends bytes ≡ 0 → partial ≡ line_with s.partial bytes
    → Takes (take (length bytes) bytes) s (record s { partial = partial; consumed = s.consumed + length bytes })
taken_part s bytes partial plain is =
    subst (λ b. Takes b s (record s { partial = partial; consumed = s.consumed + length bytes })) (sym (take_all (length bytes) bytes (le_refl _)))
    (takes_part plain (ap (λ p. record s { partial = p; consumed = s.consumed + length bytes }) is))

-- the bytes through the first line end are taken
pub taken_line : (s t : Stream) (bytes : List ℕ) (end : ℕ) → end < length bytes → (get_or bytes end 0 == 10) ≡ true → line_ends (take end bytes) ≡ 0
    → t ≡ with_element (take end bytes) s → Takes (take (end + 1) bytes) s (record t { consumed = t.consumed + (end + 1) })
taken_line s t bytes end within found plain is =
    let line : take (end + 1) bytes ≡ take end bytes ++ 10 ∷ [] =
    take_more bytes end 0 within ∙ ap (λ b. take end bytes ++ b ∷ []) (eqb-true _ _ found) in
    let long : s.consumed + (end + 1) ≡ s.consumed + length (take end bytes) + 1 = omega (arith, length-take-le end bytes (omega arith)) in
    takes_line (take end bytes) line plain
    (ap (λ (r : Stream). with_consumed (r.consumed + (end + 1)) r) is ∙ ap (λ n. with_consumed n (with_element (take end bytes) s)) long)

-- the end is met behind a line without line end
pub end_some : (place consumed : ℕ) (elements : List PlainValue) (ended : Bool) (partial : List ℕ) (t : Stream) → 0 < length partial
    → t ≡ with_element [] (record { place = place; elements = elements; ended = ended; partial = partial; consumed = consumed })
    → record t { ended = true } ≡ with_end (record { place = place; elements = elements; ended = ended; partial = partial; consumed = consumed })
end_some place consumed elements ended [] t some is = absurd (omega arith)
end_some place consumed elements ended (b ∷ bs) t some is = ap now_ended is

front_of : (left piece : List ℕ) (n : ℕ) → n ≤ length piece → StartsWith left piece → StartsWith left (take n piece)
front_of left piece n within front =
    ap (λ k. take k left) (length-take-le n piece within) ∙ sym (take-take n (length piece) left within) ∙ ap (take n) front

-- the bytes taken of a piece are a front of what is left
pub piece_step : (old new : Stream) (o p q : Option Contents) (piece : List ℕ) (shown taken : ℕ) → IfSome o (λ c. StartsWith c.left piece)
    → shown ≤ length piece → taken ≤ length (take shown piece) → 0 < taken → p ≡ o → q ≡ option_map (advanced taken) p
    → Takes (take taken (take shown piece)) old new → Step old new o q
piece_step old new o p q piece shown taken front few within some same moved takes =
    let long = length-take-le taken (take shown piece) within in
    step_bytes (take taken (take shown piece)) (omega (arith, long)) (told o front)
    (moved ∙ ap (option_map (advanced taken)) same ∙ ap (λ n. option_map (advanced n) o) (sym long)) takes
  where
    told : (o : Option Contents) → IfSome o (λ c. StartsWith c.left piece) → IfSome o (λ c. StartsWith c.left (take taken (take shown piece)))
    told None front = tt
    told (Some c) front = front_of c.left (take shown piece) taken within (front_of c.left piece shown few front)

-- a piece that is shown leaves the contents
pub shown_contents : (result : Result (Bor (List ℕ)) PortFault) (piece : Bor (List ℕ)) (p q : Place) → result ≡ Ok piece
    → IfOk result (λ shown. IsShown (length shown.now) p q) → q.contents ≡ p.contents
shown_contents result piece p q was shows = (subst (λ r. IfOk r (λ shown. IsShown (length shown.now) p q)) was shows).contents

pub some_length : (n : ℕ) → (n == 0) ≡ false → 0 < n
some_length zero none = cc
some_length (suc n) none = omega arith

-- a write of a value that f can't tell from the one that stood there
pub map-set_same : {X Y : Type 0} (f : X → Y) (xs : List X) (i : ℕ) (v old : X) → slice_get xs i ≡ Some old → f v ≡ f old → map f (slice_set xs i v) ≡ map f xs
map-set_same f [] i v old was same = refl
map-set_same f (x ∷ xs) zero v old was same = ap (λ y. y ∷ map f xs) (same ∙ sym (ap f (same_Some x old was)))
map-set_same f (x ∷ xs) (suc i) v old was same = ap (λ ys. f x ∷ ys) (map-set_same f xs i v old was same)

-- the stream with other elements that are the same
pub with_elements : (s : Stream) (elements : List PlainValue) → elements ≡ s.elements → record s { elements = elements } ≡ s
with_elements s elements same = ap (λ es. let t : Stream = record s { elements = es } in t) same
