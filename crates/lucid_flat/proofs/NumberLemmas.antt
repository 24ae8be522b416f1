-- Lemmas on the numbers of words.
use Rattle.lucid_flat.proofs.Common.{◌≡◌, ℕ, suc, get_or, ◌<◌, ◌≤◌, ◌+◌, ◌^◌, Bool, true, false, List, [], ◌∷◌, ◌++◌, Option, Some, None, map, length, refl, sym, ap, ◌∙◌, subst, arith, append_assoc, cond, length-append, decimal, option_map, option_and_then, append-nil, option_and_then_some, cond_some, same_Some, numbers_of, take_number, is_end, Are32, few_numbers_of, nat_lt, ltb-true, lt-ltb, le-ltb}
use Rattle.lucid_texts.specs.Words.{number_of}
use Rattle.lucid_texts.proofs.WordLemmas.{number_of_some, number_of-decimal}

-- numbers in front of those that are read
abbrev pub with_front : List ℕ → Option (List ℕ) → Option (List ℕ)
with_front ns o = option_map (λ ms. ns ++ ms) o

pub with_front_front : (ns ms : List ℕ) (o : Option (List ℕ)) → with_front ns (with_front ms o) ≡ with_front (ns ++ ms) o
with_front_front ns ms None = refl
with_front_front ns ms (Some ks) = ap Some (sym (append_assoc ns ms ks))

-- a number with the words behind it
abbrev beside : List (List ℕ) → Option ℕ → Option (ℕ × List (List ℕ))
beside ws o = option_and_then (λ n. Some (n, ws)) o

-- the parts of such a pair
abbrev number_in : ℕ × List (List ℕ) → ℕ
number_in p = p.0

abbrev words_in : ℕ × List (List ℕ) → List (List ℕ)
words_in p = p.1

none_first : (w : List ℕ) (ws : List (List ℕ)) (o : Option ℕ) → number_of (2 ^ 32) w ≡ o → beside ws o ≡ None → numbers_of (2 ^ 32) (w ∷ ws) ≡ None
none_first w ws None e h = rw e
none_first w ws (Some n) e h = absurd (cc)

-- where the next word is no number, words are no numbers
pub numbers_none : (ws : List (List ℕ)) → is_end ws ≡ false → take_number (2 ^ 32) ws ≡ None → numbers_of (2 ^ 32) ws ≡ None
unfolding take_number
numbers_none [] h e = absurd (cc)
numbers_none (w ∷ ws) h e = none_first w ws (number_of (2 ^ 32) w) refl e

some_first : (w : List ℕ) (ws vs : List (List ℕ)) (n : ℕ) (o : Option ℕ) → number_of (2 ^ 32) w ≡ o → beside ws o ≡ Some (n, vs)
    → numbers_of (2 ^ 32) (w ∷ ws) ≡ with_front (n ∷ []) (numbers_of (2 ^ 32) vs)
some_first w ws vs n None e h = absurd (cc)
some_first w ws vs n (Some k) e h =
    let q : (k, ws) ≡ (n, vs) = cc in
    let a = ap number_in q in
    let b = ap words_in q in rw (e, a, b) (joined (numbers_of (2 ^ 32) vs))
  where
    joined : (o : Option (List ℕ)) → option_and_then (λ ns. Some (n ∷ ns)) o ≡ with_front (n ∷ []) o
    joined None = refl
    joined (Some ns) = refl

-- and where it is one, it stands in front
pub numbers_some : (ws vs : List (List ℕ)) (n : ℕ) → take_number (2 ^ 32) ws ≡ Some (n, vs)
    → numbers_of (2 ^ 32) ws ≡ with_front (n ∷ []) (numbers_of (2 ^ 32) vs)
unfolding take_number
numbers_some [] vs n e = absurd (cc)
numbers_some (w ∷ ws) vs n e = some_first w ws vs n (number_of (2 ^ 32) w) refl e

behind : (w : List ℕ) (ws vs : List (List ℕ)) (n : ℕ) (o : Option ℕ) → beside ws o ≡ Some (n, vs) → ws ≡ vs
behind w ws vs n None h = absurd (cc)
behind w ws vs n (Some k) h =
    let q : (k, ws) ≡ (n, vs) = cc in ap words_in q

-- fewer words are left behind it
pub fewer_words : (ws vs : List (List ℕ)) (n : ℕ) → take_number (2 ^ 32) ws ≡ Some (n, vs) → length vs < length ws
unfolding take_number
fewer_words [] vs n e = absurd (cc)
fewer_words (w ∷ ws) vs n e = let k = ap (length {A = List ℕ}) (behind w ws vs n (number_of (2 ^ 32) w) e) in omega arith

-- one more number
pub front_more : (all ws vs : List (List ℕ)) (ns : List ℕ) (n : ℕ) → numbers_of (2 ^ 32) all ≡ with_front ns (numbers_of (2 ^ 32) ws)
    → take_number (2 ^ 32) ws ≡ Some (n, vs)
    → numbers_of (2 ^ 32) all ≡ with_front (ns ++ n ∷ []) (numbers_of (2 ^ 32) vs)
front_more all ws vs ns n e t = (e ∙ ap (with_front ns) (numbers_some ws vs n t)) ∙ with_front_front ns (n ∷ []) (numbers_of (2 ^ 32) vs)

pub front_pushed : (all ws vs : List (List ℕ)) (ns ms : List ℕ) (n : ℕ) → numbers_of (2 ^ 32) all ≡ with_front ns (numbers_of (2 ^ 32) ws)
    → take_number (2 ^ 32) ws ≡ Some (n, vs)
    → ms ≡ ns ++ n ∷ [] → numbers_of (2 ^ 32) all ≡ with_front ms (numbers_of (2 ^ 32) vs)
front_pushed all ws vs ns ms n e t m = front_more all ws vs ns n e t ∙ ap (λ ks. with_front ks (numbers_of (2 ^ 32) vs)) (sym m)

-- numbers, where they are few
abbrev few_of : Option (List ℕ) → Option (List ℕ)
few_of o = option_and_then (λ ns. cond (nat_lt (length ns) (2 ^ 32)) (Some ns) None) o

kept : (ns : List ℕ) (b : Bool) → b ≡ true → cond b (Some ns) None ≡ Some ns
kept ns true e = refl
kept ns false e = absurd (cc)

lost : (ns : List ℕ) (b : Bool) → b ≡ false → cond b (Some ns) None ≡ None
lost ns true e = absurd (cc)
lost ns false e = refl

no_words : (ws : List (List ℕ)) → is_end ws ≡ true → numbers_of (2 ^ 32) ws ≡ Some []
no_words [] h = refl
no_words (w ∷ ws) h = absurd (cc)

-- where no word is left, the numbers are all
pub few_all : (all ws : List (List ℕ)) (ns : List ℕ) → numbers_of (2 ^ 32) all ≡ with_front ns (numbers_of (2 ^ 32) ws) → is_end ws ≡ true → length ns < 2 ^ 32
    → few_numbers_of all ≡ Some ns
few_all all ws ns e t h = ap few_of ((e ∙ ap (with_front ns) (no_words ws t)) ∙ ap Some (append-nil ns)) ∙ kept ns _ (lt-ltb _ _ h)

past : (ns : List ℕ) (o : Option (List ℕ)) → 2 ^ 32 ≤ length ns → few_of (with_front ns o) ≡ None
past ns None h = refl
past ns (Some ms) h = lost (ns ++ ms) _ (le-ltb _ _ (omega (arith, length-append ns ms)))

-- too many numbers are none
pub few_past : (all ws vs : List (List ℕ)) (ns : List ℕ) (n : ℕ) → numbers_of (2 ^ 32) all ≡ with_front ns (numbers_of (2 ^ 32) ws)
    → take_number (2 ^ 32) ws ≡ Some (n, vs)
    → 2 ^ 32 ≤ length ns + 1 → few_numbers_of all ≡ None
few_past all ws vs ns n e t h = ap few_of (front_more all ws vs ns n e t)
    ∙ past (ns ++ n ∷ []) (numbers_of (2 ^ 32) vs) (omega (arith, length-append ns (n ∷ [])))

-- where the next word is none
pub few_none : (all ws : List (List ℕ)) (ns : List ℕ) → numbers_of (2 ^ 32) all ≡ with_front ns (numbers_of (2 ^ 32) ws) → is_end ws ≡ false
    → take_number (2 ^ 32) ws ≡ None
    → few_numbers_of all ≡ None
few_none all ws ns e h t = ap few_of (e ∙ ap (with_front ns) (numbers_none ws h t))

-- numbers are read from their words
numbers_of-words : (ns : List ℕ) → Are32 ns → numbers_of (2 ^ 32) (map decimal ns) ≡ Some ns
numbers_of-words [] h = refl
numbers_of-words (n ∷ ns) h = rw (number_of-decimal (2 ^ 32) n (omega arith) h.0, numbers_of-words ns h.1) refl

pub few_numbers_of-words : (ns : List ℕ) → Are32 ns → length ns < 2 ^ 32 → few_numbers_of (map decimal ns) ≡ Some ns
few_numbers_of-words ns h l = rw (numbers_of-words ns h, lt-ltb (length ns) (2 ^ 32) l) refl

-- numbers that were read
numbers_read : (ws : List (List ℕ)) (ns : List ℕ) → numbers_of (2 ^ 32) ws ≡ Some ns → (ws ≡ map decimal ns) × Are32 ns
numbers_read [] ns e =
    let q : [] ≡ ns = cc in
    let P : List ℕ → Type 0 = λ ks. ([] ≡ map decimal ks) × Are32 ks in subst P q (refl, tt)
numbers_read (w ∷ ws) ns e =
    option_and_then_some _ (number_of (2 ^ 32) w) ns e (λ n t k.
    option_and_then_some _ (numbers_of (2 ^ 32) ws) ns k (λ ms u l.
    let d = number_of_some (2 ^ 32) w n t in
    let g = numbers_read ws ms u in
    let P : List ℕ → Type 0 = λ ks. (w ∷ ws ≡ map decimal ks) × Are32 ks in
    subst P (same_Some (n ∷ ms) ns l) (ap (λ (x : List ℕ). x ∷ ws) d.0 ∙ ap (λ (us : List (List ℕ)). decimal n ∷ us) g.0, (d.1, g.1))))

pub few_read : (ws : List (List ℕ)) (ns : List ℕ) → few_numbers_of ws ≡ Some ns → (ws ≡ map decimal ns) × Are32 ns × (length ns < 2 ^ 32)
few_read ws ns e =
    option_and_then_some _ (numbers_of (2 ^ 32) ws) ns e (λ ms t k.
    let q = cond_some (nat_lt (length ms) (2 ^ 32)) ms ns k in
    let d = numbers_read ws ms t in
    let P : List ℕ → Type 0 = λ ks. (ws ≡ map decimal ks) × Are32 ks × (length ks < 2 ^ 32) in
    subst P q.1 (d.0, d.1, ltb-true (length ms) (2 ^ 32) q.0))

-- numbers of 32 bits, by their places
pub all_32 : (ns : List ℕ) → ((i : ℕ) → i < length ns → get_or ns i 0 < 2 ^ 32) → Are32 ns
all_32 [] h = tt
all_32 (k ∷ ks) h = (h 0 (omega arith), all_32 ks (λ i l. h (suc i) (omega arith)))
