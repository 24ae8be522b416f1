use Rattle.std.proofs.Common.{length, Bor, ◌<◌}
use Rattle.std.proofs.Math.ListN.{get_or-eq_default}
use Rattle.std.proofs.lemmas.List.{get_or-map, length-map}
use Rattle.std.specs.List.{filter, list_any}
use Rattle.std.proofs.lemmas.Map.Views.{any-filter_same}
use Rattle.lucid_value.proofs.Common.{ℕ, Bool, true, List, [], ◌∷◌, suc, zero, ◌||◌, ◌≡◌, ◌≤◌, ◌≢◌, Decides-eqb, slice_eq-Decides, and_parts, ltb-true, arith, subst, list_all, nat_lt, false, refl, sym, ◌∙◌, ap, map, get_or, nat_eq, eqb-true}
use Rattle.lucid_value.specs.Plain.{same_bytes}
use Rattle.lucid_value.specs.Names.{is_reserved, reserved_of_length, reserved_words}
use Rattle.lucid_value.proofs.names.is_reserved.Goals as goal

-- those of 0 letters, of 1, and so on: there are none of more than 8
by_length : List (List (List ℕ))
by_length = map reserved_of_length (0 ∷ 1 ∷ 2 ∷ 3 ∷ 4 ∷ 5 ∷ 6 ∷ 7 ∷ 8 ∷ [])

other : (a b : ℕ) (r : Bool) → nat_eq a b ≡ r → a ≢ b → r ≡ false
other a b true e apart = elim (apart (eqb-true a b e)) [ ]
other a b false e apart = refl

-- where all words are shorter, none has so many letters
none_longer : (words : List (List ℕ)) (n : ℕ) → 9 ≤ n → list_all (λ word. nat_lt (length word) 9) words ≡ true
    → filter (λ word. nat_eq (length word) n) words ≡ []
none_longer [] n h e = refl
none_longer (word ∷ words) n h e =
    let parts = and_parts (nat_lt (length word) 9) (list_all (λ word. nat_lt (length word) 9) words) e in
    let short = ltb-true (length word) 9 parts.0 in
    let differ = other (length word) n (nat_eq (length word) n) refl (λ same. absurd (omega (arith, h, short, same))) in
    rw differ (none_longer words n h parts.1)

at_length : (n : ℕ) → get_or by_length n [] ≡ reserved_of_length n
unfolding by_length reserved_of_length reserved_words
at_length zero = refl
at_length (suc zero) = refl
at_length (suc (suc zero)) = refl
at_length (suc (suc (suc zero))) = refl
at_length (suc (suc (suc (suc zero)))) = refl
at_length (suc (suc (suc (suc (suc zero))))) = refl
at_length (suc (suc (suc (suc (suc (suc zero)))))) = refl
at_length (suc (suc (suc (suc (suc (suc (suc zero))))))) = refl
at_length (suc (suc (suc (suc (suc (suc (suc (suc zero)))))))) = refl
at_length (suc (suc (suc (suc (suc (suc (suc (suc (suc n))))))))) =
    sym (none_longer reserved_words (suc (suc (suc (suc (suc (suc (suc (suc (suc n))))))))) (search arith) refl)

nat_same : (n : ℕ) → nat_eq n n ≡ true
nat_same n = (Decides-eqb n n).1 refl

-- a word is reserved where it is one of the reserved words of its length
among : (bs : List ℕ) → list_any (same_bytes bs) (reserved_of_length (length bs)) ≡ is_reserved bs
unfolding reserved_of_length
among bs = any-filter_same (same_bytes bs) (λ word. nat_eq (length word) (length bs)) true
    (λ k e. ap (λ (ks : List ℕ). nat_eq (length ks) (length bs)) (sym ((slice_eq-Decides Decides-eqb bs k _ refl).0 e)) ∙ nat_same (length bs)) reserved_words

-- a test of what words are seen as is one of the words
any_seen : {A B : Type 0} (seen : A → B) (test : B → Bool) (xs : List A) → list_any (λ x. test (seen x)) xs ≡ list_any test (map seen xs)
any_seen seen test [] = refl
any_seen seen test (x ∷ xs) = ap (λ b. test (seen x) || b) (any_seen seen test xs)

seen : Bor (List (Bor (List ℕ))) → List (List ℕ)
seen words = map (λ (x : Bor (List ℕ)). x.now) words.now

found : (xs : List (Bor (List (Bor (List ℕ))))) (n : ℕ) (w : Bor (List (Bor (List ℕ)))) → map seen xs ≡ by_length → n < length xs → w ≡ get_or xs n w
    → seen w ≡ reserved_of_length n
found xs n w e h at = ap seen at ∙ sym (get_or-map seen xs n w [] h) ∙ ap (λ ys. get_or ys n []) e ∙ at_length n

none : (xs : List (Bor (List (Bor (List ℕ))))) (n : ℕ) → map seen xs ≡ by_length → length xs ≤ n → [] ≡ reserved_of_length n
none xs n e h = sym (get_or-eq_default (map seen xs) [] (subst (λ m. m ≤ n) (sym (length-map xs seen)) h)) ∙ ap (λ ys. get_or ys n []) e ∙ at_length n

pub returns-in-Some : goal.returns-in-Some
unfolding by_length seen
returns-in-Some c =
    let bs = c.args.bytes.now in
    let w = c.in-Some.words.now in
    let look = c.in-Some.ensures.lookup.3 in
    c.is_among.ensures ∙ any_seen (λ (x : Bor (List ℕ)). x.now) (same_bytes bs) w.now
    ∙ ap (list_any (same_bytes bs)) (found c.words_by_length.result.now (length bs) w c.words_by_length.ensures look.0 (look.1 w)) ∙ among bs

pub returns-in-None : goal.returns-in-None
unfolding by_length seen
returns-in-None c =
    let bs = c.args.bytes.now in
    ap (list_any (same_bytes bs)) (none c.words_by_length.result.now (length bs) c.words_by_length.ensures c.in-None.ensures.lookup.3) ∙ among bs
