-- The text of a made program line by line, and how long it is.
use Rattle.std.proofs.Common.{◌≡◌, ℕ, zero, suc, ◌+◌, ◌-◌, ◌*◌, ◌<◌, ◌≤◌, List, [], ◌∷◌, ◌++◌, length, map, codes, refl, sym, ◌∙◌, ap, add-one, append_assoc, arith, length-append}
use Rattle.std.specs.Fmt.{decimal}
use Rattle.std.specs.List.{flat_map, range_with_len}
use Rattle.std.proofs.lemmas.List.{append-nil}
use Rattle.std.proofs.lemmas.List.Concat.{flat_map-append}
use Rattle.std.proofs.lemmas.List.FromFn.{map-range_with_len_more}
use Rattle.std.proofs.lemmas.Fmt.{length-decimal-le}
use Rattle.lucid_make.specs.Source.{made_source, ended_line, definition_of, subject_line, first_definition}

-- the text of the first two lines and of the definitions of the names from 1 to `count`
unfoldable pub text_through : ℕ → ℕ → List ℕ
text_through last count =
    flat_map ended_line (subject_line last ∷ first_definition ∷ map definition_of (range_with_len 1 count))

-- with no definition it is the first two lines
text_through_none : (last : ℕ) → text_through last 0 ≡ ended_line (subject_line last) ++ ended_line first_definition
unfolding text_through
text_through_none last = refl

-- the pieces of a line that stand one after the other, and the same pieces as a line with its end
pub joined_pieces : (name before equals begin plus end_of line_end : List ℕ)
    → name ++ (equals ++ (before ++ (begin ++ (name ++ (plus ++ (before ++ (end_of ++ line_end))))))) ≡ (name ++ equals ++ before ++ begin ++ name ++ plus ++ before ++ end_of) ++ line_end
joined_pieces name before equals begin plus end_of line_end = simp append_assoc

-- one more line after some definitions of a list of any kind
one_line_more : (end_of : List ℕ → List ℕ) (line : ℕ → List ℕ) (front : List (List ℕ)) (count : ℕ)
    → flat_map end_of (front ++ map line (range_with_len 1 (count + 1))) ≡ flat_map end_of (front ++ map line (range_with_len 1 count)) ++ end_of
    (line (count + 1))
one_line_more end_of line front count =
    let lines = map line (range_with_len 1 count) in
    let new = line (count + 1) in
    ap (λ ls. flat_map end_of (front ++ ls)) (map-range_with_len_more line 1 count (count + 1) (omega arith))
    ∙ ap (flat_map end_of) (sym (append_assoc front lines (new ∷ [])))
    ∙ flat_map-append end_of (front ++ lines) (new ∷ [])
    ∙ ap (λ bs. flat_map end_of (front ++ lines) ++ bs) (append-nil (end_of new))

-- one more definition
text_through_more : (last count : ℕ) → text_through last (count + 1) ≡ text_through last count ++ ended_line (definition_of (count + 1))
unfolding text_through
text_through_more last count = one_line_more ended_line definition_of (subject_line last ∷ first_definition ∷ []) count

-- the whole text is that through the last name, and the line `end`
made_source_is : (last : ℕ) → made_source last ≡ text_through last last ++ ended_line (codes "end")
unfolding text_through made_source
made_source_is last =
    flat_map-append ended_line (subject_line last ∷ first_definition ∷ map definition_of (range_with_len 1 last)) (codes "end" ∷ [])

-- a number of at most five digits
five_digits : (n : ℕ) → n ≤ 10000 → length (decimal n) ≤ 5
five_digits n small = length-decimal-le 5 n (omega arith) (omega arith) (omega arith)

-- a definition has at most 49 bytes with its line end
length_definition_of-le : (number : ℕ) → number ≤ 10000 → length (ended_line (definition_of number)) ≤ 49
length_definition_of-le number small =
    simp length-append (omega (arith, five_digits number small, five_digits (number - 1) (omega arith)))

-- the first two lines have at most 43 bytes
length_text_through_none-le : (last : ℕ) → last ≤ 10000 → length (text_through last 0) ≤ 43
unfolding text_through
length_text_through_none-le last small = simp length-append (omega (arith, five_digits last small))

-- the length of a text is at most that of its two parts
length_joined-le : (whole front back : List ℕ) (n m : ℕ) → whole ≡ front ++ back → length front ≤ n → length back ≤ m → length whole ≤ n + m
length_joined-le whole front back n m joined few more =
    omega (arith, ap length joined, length-append front back)

-- the lines through a definition
length_text_through-le : (last count : ℕ) → last ≤ 10000 → count ≤ 10000 → length (text_through last count) ≤ 43 + 49 * count
length_text_through-le last zero small few = length_text_through_none-le last small
length_text_through-le last (suc count) small few =
    let before = length_text_through-le last count small (omega arith) in
    let line = length_definition_of-le (count + 1) (omega arith) in
    let joined : length (text_through last (count + 1)) ≤ 43 + 49 * count + 49 = length_joined-le _ _ _ _ 49 (text_through_more last count) before line in
    rw (← add-one) (omega (arith, joined))

-- the whole text is shorter than 500,000 bytes
pub length_made_source-lt : (text : List ℕ) (last : ℕ) → last ≤ 10000 → text ≡ made_source last → length text < 500000
length_made_source-lt text last small made =
    let lines = length_text_through-le last last small small in
    let joined = length_joined-le _ _ _ _ 4 (made ∙ made_source_is last) lines (omega arith) in
    omega (arith, joined)

-- an empty text that gains the first two lines
pub begins : (old new : List ℕ) (last : ℕ) → old ≡ [] → new ≡ old ++ (ended_line (subject_line last) ++ ended_line first_definition) → new ≡ text_through last 0
begins old new last empty gained =
    gained ∙ ap (λ bs. bs ++ (ended_line (subject_line last) ++ ended_line first_definition)) empty ∙ sym (text_through_none last)

-- a text that gains the next definition
pub goes_on : (old new : List ℕ) (last count number through : ℕ) → count + 1 ≡ number → through ≡ number → old ≡ text_through last count
    → new ≡ old ++ ended_line (definition_of number) → new ≡ text_through last through
goes_on old new last count number through next same was gained =
    let added : new ≡ old ++ ended_line (definition_of (count + 1)) = rw next gained in
    rw (same, ← next) (added ∙ ap (λ bs. bs ++ ended_line (definition_of (count + 1))) was ∙ sym (text_through_more last count))

-- a text of all definitions that gains the line `end`
pub ends : (old new : List ℕ) (last count : ℕ) → count ≡ last → old ≡ text_through last count → new ≡ old ++ ended_line (codes "end") → new ≡ made_source last
ends old new last count all was gained =
    gained ∙ ap (λ bs. bs ++ ended_line (codes "end")) (was ∙ ap (text_through last) all) ∙ sym (made_source_is last)
