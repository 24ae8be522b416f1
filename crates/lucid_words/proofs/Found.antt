-- What the readers of the matches answer, as `clap`'s rows have it.
use Rattle.lucid_words.proofs.Common.{◌≡◌, ℕ, ◌<◌, ◌^◌, Bool, true, false, ◌&&◌, List, [], ◌∷◌, length, Option, Some, None, Ok, Err, refl, sym, ap, ◌∙◌, option_map, list_all, ParsesUnsigned, digits_value, without_leading_plus, ltb-true, both, one_text-rows, number_in, number_given, Result, nat_lt, digit_value, AllDigits, lt-ltb}
use Rattle.clap.specs.Words.{Text, all_of, matched_of, raw_values, ReadsOne, first_of, first_value, one_text, rows_of}
use Rattle.clap.specs.ValueTests.{is_numeral}
use Rattle.clap.specs.declared.parser.matches.Found.{Found}
use Rattle.clap.proofs.WalkLemmas.{first_value-rows, raw_values-rows}

-- the first value of an option
pub first_is : (f : Found) (name : Text) (value : Option Text) → value ≡ first_value f name → first_of name (rows_of f) ≡ value
first_is f name value read = sym (first_value-rows f name) ∙ sym read

-- all values of an option
pub all_is : (f : Found) (name : Text) (values : Option (List Text)) → values ≡ option_map raw_values (matched_of f name) → all_of name (rows_of f) ≡ values
all_is f name values read = sym (raw_values-rows f name) ∙ sym read

-- digits, as a fact and as a test
pub digits_from : (ds : List ℕ) → list_all (λ d. nat_lt (digit_value d) 10) ds ≡ true → AllDigits 10 ds
digits_from [] e = tt
digits_from (d ∷ ds) e = let parts = both _ _ e in (ltb-true _ _ parts.0, digits_from ds parts.1)

digits_back : (ds : List ℕ) → AllDigits 10 ds → list_all (λ d. nat_lt (digit_value d) 10) ds ≡ true
digits_back [] h = refl
digits_back (d ∷ ds) h = rw (lt-ltb (digit_value d) 10 h.0) (digits_back ds h.1)

-- the test that `number_in` makes
abbrev pub is_number_in : ℕ → Text → Bool
is_number_in bits text =
    is_numeral (without_leading_plus text) && nat_lt (digits_value 10 (without_leading_plus text)) (2 ^ bits)

numeral_back : (ds : List ℕ) → 0 < length ds → AllDigits 10 ds → is_numeral ds ≡ true
numeral_back ds some digits = rw (lt-ltb 0 (length ds) some, digits_back ds digits) refl

parse_is : (E : Type 0) (bits : ℕ) (text : Text) (answer : Option ℕ) (gives : Text → Result ℕ E → Type 0)
    → ((u : Text) (x : Result ℕ E) → gives u x → ParsesUnsigned bits 10 u x) → ReadsOne gives text answer → answer ≡ number_in bits text
parse_is E bits text (Some n) gives parses read =
    let parsed = parses text (Ok n) read in
    let numeral = numeral_back (without_leading_plus text) parsed.0.0.0 parsed.0.0.1 in
    rw (numeral, lt-ltb (digits_value 10 (without_leading_plus text)) (2 ^ bits) parsed.0.1) (ap Some parsed.1)
parse_is E bits text None gives parses read = go (is_number_in bits text) refl
  where
    go : (b : Bool) → is_number_in bits text ≡ b → None ≡ number_in bits text
    go true e =
        let fails = parses text (Err read.0) read.1 in
        let parts = both _ _ e in
        let numeral = both _ _ parts.0 in
        absurd (fails ((ltb-true _ _ numeral.0, digits_from _ numeral.1), ltb-true _ _ parts.1))
    go false e = rw e refl

-- the number of an option
pub number_is : (E : Type 0) (bits : ℕ) (f : Found) (name : Text) (answer : Option ℕ) (gives : Text → Result ℕ E → Type 0)
    → ((u : Text) (x : Result ℕ E) → gives u x → ParsesUnsigned bits 10 u x) → (one_text f name ≡ None → answer ≡ None)
    → ((t : Text) → one_text f name ≡ Some t → ReadsOne gives t answer) → answer ≡ number_given bits name (rows_of f)
number_is E bits f name answer gives parses none value = rw (← one_text-rows f name) (go (one_text f name) refl)
  where
    go : (o : Option Text) → one_text f name ≡ o → answer ≡ elim o as (λ _. Option ℕ) [ None ↦ None | Some t ↦ number_in bits t ]
    go None e = none e
    go (Some t) e = parse_is E bits t answer gives parses (value t e)
