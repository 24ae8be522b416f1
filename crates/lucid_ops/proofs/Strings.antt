-- The bytes of words and of decimal numbers may stand in a string.
use Rattle.lucid_ops.proofs.Common.{◌≡◌, ℕ, suc, ◌%◌, ◌^◌, ◌<◌, ◌∙◌, true, List, [], ◌∷◌, refl, arith, ℤ, pos, negsuc, FitsSigned, w128, and_parts, nat_tests, ◌+◌, not, ◌++◌, IsTrue, list_all, is_ascii_alphabetic, is_ascii_alphanumeric, decimal, signed_decimal, both_true, list_all-append, decimal_by_steps_wide, length-decimal-le_wide}
use Rattle.std.proofs.Common.{length}
use Rattle.lucid_value.specs.Plain.{is_text, is_text_byte, is_word, is_wordlike, spells_constant}

letter : (b : ℕ) → is_ascii_alphabetic b ≡ true → is_text_byte b ≡ true
letter b h = grind (arith, nat_tests)

letter_or_digit : (b : ℕ) → is_ascii_alphanumeric b ≡ true → is_text_byte b ≡ true
letter_or_digit b h = grind (arith, nat_tests)

letters_and_digits : (bs : List ℕ) → list_all is_ascii_alphanumeric bs ≡ true → is_text bs ≡ true
letters_and_digits [] h = refl
letters_and_digits (b ∷ bs) h = let p = and_parts (is_ascii_alphanumeric b) (list_all is_ascii_alphanumeric bs) h in
    both_true (letter_or_digit b p.0) (letters_and_digits bs p.1)

wordlike : (bs : List ℕ) → is_wordlike bs ≡ true → is_text bs ≡ true
wordlike [] h = refl
wordlike (b ∷ bs) h = let p = and_parts (is_ascii_alphabetic b) (list_all is_ascii_alphanumeric bs) h in both_true (letter b p.0) (letters_and_digits bs p.1)

pub word_is_text : (bs : List ℕ) → IsTrue (is_word bs) → IsTrue (is_text bs)
word_is_text bs h = wordlike bs (and_parts (is_wordlike bs) (not (spells_constant bs)) h).0

digit : (d : ℕ) → d < 10 → is_text_byte (48 + d) ≡ true
digit d h = grind (arith, nat_tests)

one_more : (n : ℕ) (ds : List ℕ) → is_text ds ≡ true → is_text (ds ++ ((48 + n % 10) ∷ [])) ≡ true
one_more n ds h = list_all-append is_text_byte ds ((48 + n % 10) ∷ []) ∙ both_true h (both_true (digit (n % 10) (omega arith)) refl)

digits_are_text : (n : ℕ) → n < 10 ^ 64 → is_text (decimal n) ≡ true
digits_are_text = decimal_by_steps_wide (λ n ds. is_text ds ≡ true) (λ n h. both_true (digit n h) refl) (λ n ds h k. one_more n ds k)

-- the text of an integer of 128 bits
pub decimal_is_text : (z : ℤ) → FitsSigned w128 z → IsTrue (is_text (signed_decimal z))
decimal_is_text (pos n) h = digits_are_text n (omega (arith, h.sfits))
decimal_is_text (negsuc n) h = both_true refl (digits_are_text (suc n) (omega (arith, h.sfits)))

pub decimal_is_short : (z : ℤ) → FitsSigned w128 z → length (signed_decimal z) < 65536
decimal_is_short (pos n) h = omega (arith, length-decimal-le_wide 64 n (omega arith) (omega (arith, h.sfits)) (omega (arith, h.sfits)))
decimal_is_short (negsuc n) h = omega (arith, length-decimal-le_wide 64 (suc n) (omega arith) (omega (arith, h.sfits)) (omega (arith, h.sfits)))
