-- One, two or three numbers: what is read has the words that it is read from, and numbers are read from their words.
use Rattle.lucid_flat.proofs.Common.{◌≡◌, ℕ, ◌≤◌, ◌^◌, true, false, cond, List, [], ◌∷◌, map, length, get_or, Option, Some, None, ◌⊎◌, inl, inr, refl, ap, ◌∙◌, subst, arith, decimal, ◌==◌, option_and_then, eqb-true, option_and_then_some, cond_some, same_Some, take_number, is_end, taken, take_number-decimal, no_word, Three, Are32, three_of, exactly, listed, eq-eqb}
use Rattle.lucid_flat.proofs.Chosen.{by_test}

-- the words are those of the numbers, which are of 32 bits
abbrev pub AreWordsOf : List (List ℕ) → Three → Type 0
AreWordsOf ws ns = (ws ≡ map decimal (listed ns)) × Are32 (listed ns)

abbrev one : (a : ℕ) → Three
one a = record { first = a; second = 0; third = 0; count = 1 }

abbrev two : (a b : ℕ) → Three
two a b = record { first = a; second = b; third = 0; count = 2 }

abbrev three : (a b c : ℕ) → Three
three a b c = record { first = a; second = b; third = c; count = 3 }

words_of : (ws vs : List (List ℕ)) (ns ms : Three) → ws ≡ vs → Some ns ≡ Some ms → AreWordsOf vs ns → AreWordsOf ws ms
words_of ws vs ns ms e h k =
    let P : Three → Type 0 = AreWordsOf ws in subst P (same_Some ns ms h) (e ∙ k.0, k.1)

-- a number in front of words is taken, and the last one is
more_taken : (ws vs : List (List ℕ)) (a : ℕ × List (List ℕ)) → take_number (2 ^ 32) ws ≡ Some a → a.1 ≡ vs → ws ≡ decimal a.0 ∷ vs
more_taken ws vs a e h = (taken (2 ^ 32) ws a e).0 ∙ ap (λ (us : List (List ℕ)). decimal a.0 ∷ us) h

-- what is made of a third number, of a second, and of a first
abbrev third : (a b : ℕ) → ℕ × List (List ℕ) → Option Three
third a b c = cond (is_end c.1) (Some (three a b c.0)) None

abbrev second : (a : ℕ) → ℕ × List (List ℕ) → Option Three
second a b = cond (is_end b.1) (Some (two a b.0)) (option_and_then (third a b.0) (take_number (2 ^ 32) b.1))

abbrev first : ℕ × List (List ℕ) → Option Three
first a = cond (is_end a.1) (Some (one a.0)) (option_and_then (second a.0) (take_number (2 ^ 32) a.1))

module _ (ws : List (List ℕ)) (ns : Three) where
  by_third : (a b c : ℕ × List (List ℕ)) → take_number (2 ^ 32) ws ≡ Some a → take_number (2 ^ 32) a.1 ≡ Some b → take_number (2 ^ 32) b.1 ≡ Some c
      → third a.0 b.0 c ≡ Some ns → AreWordsOf ws ns
  by_third a b c t u v e =
      let q = cond_some (is_end c.1) (three a.0 b.0 c.0) ns e in
      words_of ws _ (three a.0 b.0 c.0) ns (more_taken ws _ a t (more_taken a.1 _ b u (more_taken b.1 [] c v (no_word c.1 q.0)))) (ap Some q.1)
      (refl, ((taken (2 ^ 32) ws a t).1, ((taken (2 ^ 32) a.1 b u).1, ((taken (2 ^ 32) b.1 c v).1, tt))))

  by_second : (a b : ℕ × List (List ℕ)) → take_number (2 ^ 32) ws ≡ Some a → take_number (2 ^ 32) a.1 ≡ Some b
      → ((is_end b.1 ≡ true) × (Some (two a.0 b.0) ≡ Some ns)) ⊎ ((is_end b.1 ≡ false) × (option_and_then (third a.0 b.0) (take_number (2 ^ 32) b.1) ≡ Some ns))
      → AreWordsOf ws ns
  by_second a b t u (inl e) =
      words_of ws _ (two a.0 b.0) ns (more_taken ws _ a t (more_taken a.1 [] b u (no_word b.1 e.0))) e.1
      (refl, ((taken (2 ^ 32) ws a t).1, ((taken (2 ^ 32) a.1 b u).1, tt)))
  by_second a b t u (inr e) = option_and_then_some (third a.0 b.0) (take_number (2 ^ 32) b.1) ns e.1 (λ c v k. by_third a b c t u v k)

  by_first : (a : ℕ × List (List ℕ)) → take_number (2 ^ 32) ws ≡ Some a
      → ((is_end a.1 ≡ true) × (Some (one a.0) ≡ Some ns)) ⊎ ((is_end a.1 ≡ false) × (option_and_then (second a.0) (take_number (2 ^ 32) a.1) ≡ Some ns))
      → AreWordsOf ws ns
  by_first a t (inl e) = words_of ws _ (one a.0) ns (more_taken ws [] a t (no_word a.1 e.0)) e.1 (refl, ((taken (2 ^ 32) ws a t).1, tt))
  by_first a t (inr e) = option_and_then_some (second a.0) (take_number (2 ^ 32) a.1) ns e.1 (λ b u k. by_second a b t u (by_test (is_end b.1) _ _ (Some ns) k))

-- numbers that were read stand there
pub three_read : (ws : List (List ℕ)) (ns : Three) → three_of ws ≡ Some ns → AreWordsOf ws ns
unfolding three_of
three_read ws ns e = option_and_then_some first (take_number (2 ^ 32) ws) ns e (λ a t k. by_first ws ns a t (by_test (is_end a.1) _ _ (Some ns) k))

pub exactly_read : (k : ℕ) (ws : List (List ℕ)) (ns : Three) → exactly k ws ≡ Some ns → AreWordsOf ws ns × (ns.count ≡ k)
unfolding exactly
exactly_read k ws ns e =
    option_and_then_some _ (three_of ws) ns e (λ ms t h.
    let q = cond_some (ms.count == k) ms ns h in
    let P : Three → Type 0 = λ x. AreWordsOf ws x × (x.count ≡ k) in subst P q.1 (three_read ws ms t, eqb-true ms.count k q.0))

-- one, two or three numbers of a list
abbrev pub as_three : List ℕ → Three
as_three ns = record { first = get_or ns 0 0; second = get_or ns 1 0; third = get_or ns 2 0; count = length ns }

-- one, two or three
abbrev pub HasUpToThree : List ℕ → Type 0
HasUpToThree ns = (1 ≤ length ns) × (length ns ≤ 3)

-- numbers are read from their words
pub three_of-words : (ns : List ℕ) → Are32 ns → HasUpToThree ns → three_of (map decimal ns) ≡ Some (as_three ns)
unfolding three_of
three_of-words [] h l = absurd (omega (arith, l.0))
three_of-words (a ∷ []) h l = rw (take_number-decimal (2 ^ 32) a [] (omega arith) h.0) refl
three_of-words (a ∷ b ∷ []) h l = rw (take_number-decimal (2 ^ 32) a (decimal b ∷ []) (omega arith) h.0, take_number-decimal (2 ^ 32) b [] (omega arith) h.1.0)
    refl
three_of-words (a ∷ b ∷ c ∷ []) h l =
    rw (
      take_number-decimal (2 ^ 32) a (decimal b ∷ decimal c ∷ []) (omega arith) h.0,
      take_number-decimal (2 ^ 32) b (decimal c ∷ []) (omega arith) h.1.0,
      take_number-decimal (2 ^ 32) c [] (omega arith) h.1.1.0,
    ) refl
three_of-words (a ∷ b ∷ c ∷ d ∷ ds) h l = absurd (omega (arith, l.1))

pub exactly-words : (ns : List ℕ) → Are32 ns → HasUpToThree ns → exactly (length ns) (map decimal ns) ≡ Some (as_three ns)
unfolding exactly
exactly-words ns h l = rw (three_of-words ns h l, same (length ns)) refl
  where
    same : (k : ℕ) → (k == k) ≡ true
    same k = eq-eqb k k refl
