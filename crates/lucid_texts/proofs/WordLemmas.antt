-- Lemmas on the words of bytes and the numbers that words are.
use Rattle.lucid_texts.proofs.Common.{◌≡◌, ℕ, ◌<◌, ◌≤◌, ◌^◌, Bool, true, false, ◌&&◌, cond, List, [], ◌∷◌, ◌++◌, Option, Some, None, refl, sym, ap, ◌∙◌, subst, arith, decimal, AllByRecursion, onto_first, join_with_byte, and_parts, ltb-true, decimal_is_IsNumeral, slice_split_none, slice_split_at, bytes_eq-Decides, HasNone, number_of, is_end, Lacks, IsUtf8, bytes_eq, digits_value, lt-ltb, IsAscii-decimal, IsUtf8-from_ascii, option_and_then}
use Rattle.lucid_texts.specs.Words.{words_of, take_number}
use Rattle.lucid_texts.proofs.Bytes.{has_none, IsSolid, all_solid_lack}

is_end-onto_first : (b : ℕ) (ps : List (List ℕ)) → is_end (onto_first b ps) ≡ false
is_end-onto_first b [] = refl
is_end-onto_first b (p ∷ ps) = refl

is_end-cond : (t : Bool) (b : ℕ) (ps : List (List ℕ)) → is_end (cond t ([] ∷ ps) (onto_first b ps)) ≡ false
is_end-cond true b ps = refl
is_end-cond false b ps = is_end-onto_first b ps

-- bytes have at least one word
pub is_end-words_of : (bs : List ℕ) → is_end (words_of bs) ≡ false
is_end-words_of [] = refl
is_end-words_of (b ∷ bs) = is_end-cond _ b (words_of bs)

-- bytes without a blank are one word
pub words_of_one : (bs : List ℕ) → HasNone 32 bs → words_of bs ≡ bs ∷ []
words_of_one bs h = slice_split_none _ bs h

-- the bytes before the first blank are the first word
pub words_of_more : (w rest bs : List ℕ) → bs ≡ w ++ 32 ∷ rest → HasNone 32 w → words_of bs ≡ w ∷ words_of rest
words_of_more w rest bs e h = ap words_of e ∙ slice_split_at _ w 32 rest h refl

chosen : (b : Bool) (m n : ℕ) → cond b (Some m) None ≡ Some n → (b ≡ true) × (m ≡ n)
chosen true m n e = (refl, cc)
chosen false m n e = absurd (cc)

-- a word that is a number is its digits
pub number_of_some : (b : ℕ) (w : List ℕ) (n : ℕ) → number_of b w ≡ Some n → (w ≡ decimal n) × (n < b)
unfolding number_of
number_of_some b w n e =
    let c = chosen _ _ n e in
    let p = and_parts _ _ c.0 in
    let same = (bytes_eq-Decides (decimal (digits_value 10 w)) w).0 p.0 in
    let low = ltb-true _ _ p.1 in (sym same ∙ ap decimal c.1, subst (λ x. x < b) c.1 low)

yes : (a b : Bool) (m : ℕ) → a ≡ true → b ≡ true → cond (a && b) (Some m) None ≡ Some m
yes true true m p q = refl
yes true false m p q = absurd (cc)
yes false b m p q = absurd (cc)

-- and the digits of a number below the bound are that number
pub number_of-decimal : (b n : ℕ) → b ≤ 2 ^ 64 → n < b → number_of b (decimal n) ≡ Some n
unfolding number_of
number_of-decimal b n l h =
    let v = (decimal_is_IsNumeral n (omega (arith, l, h))).1 in
    let same = (bytes_eq-Decides (decimal (digits_value 10 (decimal n))) (decimal n)).1 (ap decimal v) in
    yes _ _ _ same (lt-ltb (digits_value 10 (decimal n)) b (subst (λ x. x < b) (sym v) h)) ∙ ap Some v

cases_number : (b : ℕ) (w : List ℕ) (o : Option ℕ) → number_of b w ≡ o → ((n : ℕ) → n < b → w ≡ decimal n → ⊥) → number_of b w ≡ None
cases_number b w None e h = e
cases_number b w (Some n) e h = let d = number_of_some b w n e in absurd (h n d.1 d.0)

-- what is no number's digits is no number
pub number_of_none : (b : ℕ) (w : List ℕ) → ((n : ℕ) → n < b → w ≡ decimal n → ⊥) → number_of b w ≡ None
number_of_none b w h = cases_number b w (number_of b w) refl h

-- the digits of a number are text
pub utf8-decimal : (w : List ℕ) (n : ℕ) → n < 2 ^ 64 → w ≡ decimal n → IsUtf8 w
utf8-decimal w n h e = subst IsUtf8 (sym e) (IsUtf8-from_ascii (decimal n) (IsAscii-decimal n h))

-- the parts of two equal pairs
taken_by : (b : ℕ) (w : List ℕ) (ws : List (List ℕ)) (p : ℕ × List (List ℕ)) (o : Option ℕ) → number_of b w ≡ o
    → option_and_then {U = ℕ × List (List ℕ)} (λ n. Some (n, ws)) o ≡ Some p
    → (w ∷ ws ≡ decimal p.0 ∷ p.1) × (p.0 < b)
taken_by b w ws p None e h = absurd (cc)
taken_by b w ws p (Some n) e h =
    let q : (n, ws) ≡ p = cc in
    let d = number_of_some b w n e in
    let P : ℕ × List (List ℕ) → Type 0 = λ x. (w ∷ ws ≡ decimal x.0 ∷ x.1) × (x.0 < b) in subst P q (ap (λ (v : List ℕ). v ∷ ws) d.0, d.1)

-- a number that was taken stands in front of the words behind it
pub taken : (b : ℕ) (ws : List (List ℕ)) (p : ℕ × List (List ℕ)) → take_number b ws ≡ Some p → (ws ≡ decimal p.0 ∷ p.1) × (p.0 < b)
unfolding take_number
taken b [] p e = absurd (cc)
taken b (w ∷ ws) p e = taken_by b w ws p (number_of b w) refl e

-- and one that stands in front is taken
pub take_number-decimal : (b n : ℕ) (ws : List (List ℕ)) → b ≤ 2 ^ 64 → n < b → take_number b (decimal n ∷ ws) ≡ Some (n, ws)
unfolding take_number
take_number-decimal b n ws l h = ap (option_and_then {U = ℕ × List (List ℕ)} (λ k. Some (k, ws))) (number_of-decimal b n l h)

-- the words of words without blanks, joined by blanks, are these words
words_of-join : (w : List ℕ) (ws : List (List ℕ)) → AllByRecursion (Lacks 32) (w ∷ ws) → words_of (join_with_byte 32 (w ∷ ws)) ≡ w ∷ ws
words_of-join w [] h = words_of_one w (has_none 32 w h.0)
words_of-join w (v ∷ ws) h = words_of_more w (join_with_byte 32 (v ∷ ws)) _ refl (has_none 32 w h.0)
    ∙ ap (λ (us : List (List ℕ)). w ∷ us) (words_of-join v ws h.1)

-- and so are words of letters and digits
pub spaced_words : (w : List ℕ) (ws : List (List ℕ)) → AllByRecursion IsSolid (w ∷ ws) → words_of (join_with_byte 32 (w ∷ ws)) ≡ w ∷ ws
spaced_words w ws h = words_of-join w ws (all_solid_lack 32 refl (w ∷ ws) h)

-- where no word is left, there is none
pub no_word : (ws : List (List ℕ)) → is_end ws ≡ true → ws ≡ []
no_word [] h = refl
no_word (w ∷ ws) h = absurd (cc)

-- words that a test tells apart
pub apart : (w c : List ℕ) → bytes_eq w c ≡ false → w ≡ c → ⊥
apart w c f e =
    let q = (bytes_eq-Decides w c).1 e in cc

-- what holds of all items of two lists
pub all-append : {A : Type 0} (P : A → Type 0) (xs ys : List A) → AllByRecursion P xs → AllByRecursion P ys → AllByRecursion P (xs ++ ys)
all-append P [] ys h k = k
all-append P (x ∷ xs) ys h k = (h.0, all-append P xs ys h.1 k)
