-- Constants, words and integers: what the reader gives of their bytes is what the bytes denote.
use Rattle.std.proofs.lemmas.Bool.{or_left}
use Rattle.lucid_value.proofs.Common.{◌≡◌, ℕ, zero, suc, ◌≤◌, ◌^◌, List, [], ◌∷◌, Bool, true, false, Option, Some, None, refl, sym, ap, subst, arith, ◌&&◌, ◌||◌, pos, neg_ℤ, nat_lt, nat_le, nat_eq, if◌then◌else◌, list_all, both_true, and_parts, leb-true, le-leb, ltb-true, lt-ltb, eqb-true, nat_tests, PlainValue, int, truth, word, text, list, eod, fault, is_light, weight, is_number, number_of, Denotes, denotes_number, denotes_minus, denotes_true, denotes_false, denotes_word, denotes_text, denotes_list, denotes_eod, denotes_fault, atom_value, is_atom_byte, rules, Result, Ok, Err, ℤ, not, codes, option_map, result_ok, OkIff, is_ascii_digit, is_ascii_alphabetic, is_ascii_alphanumeric, IsUtf8, IsAscii, ParsesSigned, IsAscii-from_digits, IsUtf8-from_ascii, IsDigitsTest, WeighsDigits, IsNumeralModel, numerals_by_weight, parse_signed_minus, parse_signed_plain, Decides-eqb, slice_eq-Decides}
use Rattle.std.proofs.Common.{◌<◌, length}
use mir.Syntax.{w128}
use Rattle.lucid_value.specs.Plain.{same_bytes, is_wordlike, is_word, spells_constant}
use Rattle.lucid_value.specs.ListScan.{is_integerlike, integer_value, word_value}

-- decimal digits and their number are what std's `parse` reads
abbrev AreDigits : List ℕ → Type 0
AreDigits ds = list_all is_ascii_digit ds ≡ true

pub digits_test : IsDigitsTest AreDigits
digits_test = search rules

weighs : WeighsDigits number_of
weighs = search rules

pub numerals : IsNumeralModel AreDigits number_of
numerals = numerals_by_weight AreDigits digits_test number_of weighs

number_digits : (ds : List ℕ) → is_number ds ≡ true → AreDigits ds
number_digits [] h = refl
number_digits (d ∷ ds) h = h

first_digit : (d : ℕ) (ds : List ℕ) → AreDigits (d ∷ ds) → (48 ≤ d) × (d ≤ 57)
first_digit d ds h = let k = digits_test.parts d ds h in (k.0.0, k.0.1)

number_some : (ds : List ℕ) → is_number ds ≡ true → 0 < length ds
number_some [] h = cc
number_some (d ∷ ds) h = omega arith

pub digits_number : (ds : List ℕ) → AreDigits ds → 0 < length ds → is_number ds ≡ true
digits_number [] h k = absurd (omega arith)
digits_number (d ∷ ds) h k = h

pub integer_unlike : (bs : List ℕ) → is_integerlike bs ≡ false → integer_value bs ≡ None
unfolding integer_value
integer_unlike [] h = refl
integer_unlike (b ∷ bs) h = unlike (nat_eq b 45) (is_number bs) (is_number (b ∷ bs)) _ _ _ _ h
  where
    unlike : (m p q : Bool) (x y : Bool) (v w : PlainValue) → (if m then p else q) ≡ false
        → (if m then (if p && x then Some v else None) else (if q && y then Some w else None)) ≡ None
    unlike true false q x y v w h = refl
    unlike true true q x y v w h = cc
    unlike false p false x y v w h = refl
    unlike false p true x y v w h = cc

digits_ascii : (ds : List ℕ) → is_number ds ≡ true → IsAscii ds
digits_ascii ds h = IsAscii-from_digits ds (numerals.to ds (number_digits ds h))

integer_ascii : (b : ℕ) (bs : List ℕ) (m : Bool) → nat_eq b 45 ≡ m → (if m then is_number bs else is_number (b ∷ bs)) ≡ true → IsAscii (b ∷ bs)
integer_ascii b bs true e h zero = omega (arith, eqb-true b 45 e)
integer_ascii b bs true e h (suc i) = digits_ascii bs h i
integer_ascii b bs false e h i = digits_ascii (b ∷ bs) h i

pub integer_utf8 : (bs : List ℕ) → is_integerlike bs ≡ true → IsUtf8 bs
integer_utf8 [] h = cc
integer_utf8 (b ∷ bs) h = IsUtf8-from_ascii (b ∷ bs) (integer_ascii b bs (nat_eq b 45) refl h)

-- what `parse` answers, where a test tells whether it reads
parsed : {E : Type 0} (r : Result ℤ E) (P : Type 0) (z : ℤ) (t : Bool) → OkIff r P z → (t ≡ true → P) → (P → t ≡ true)
    → option_map int (result_ok r) ≡ (if t then Some (int z) else None)
parsed (Ok x) P z t d to from = let e : t ≡ true = from d.0 in rw e (ap (λ y. Some (int y)) d.1)
parsed (Err e) P z true d to from = absurd (d (to refl))
parsed (Err e) P z false d to from = refl

parsed_at : {E : Type 0} (b : ℕ) (bs : List ℕ) (r : Result ℤ E) (m : Bool) → nat_eq b 45 ≡ m → (if m then is_number bs else is_number (b ∷ bs)) ≡ true
    → ParsesSigned w128 10 (b ∷ bs) r
    → option_map int (result_ok r) ≡ (if m then (if is_number bs && nat_le (number_of bs) (2 ^ 127) then Some (int (neg_ℤ (pos (number_of bs)))) else None)
    else (if is_number (b ∷ bs) && nat_lt (number_of (b ∷ bs)) (2 ^ 127) then Some (int (pos (number_of (b ∷ bs)))) else None))
parsed_at b bs r true e h p =
    parsed r _ _ _ (parse_signed_minus numerals w128 (b ∷ bs) r p (eqb-true b 45 e))
    (λ t. let k = and_parts (is_number bs) (nat_le (number_of bs) (2 ^ 127)) t in (number_digits bs k.0, number_some bs k.0, leb-true _ _ k.1))
    (λ d. both_true (digits_number bs d.0 d.1) (le-leb _ _ d.2))
parsed_at b bs r false e h p =
    parsed r _ _ _ (parse_signed_plain numerals w128 (b ∷ bs) r p (λ q. omega (arith, first_digit b bs h)) (λ q. omega (arith, first_digit b bs h)))
    (λ t. let k = and_parts (is_number (b ∷ bs)) (nat_lt (number_of (b ∷ bs)) (2 ^ 127)) t in (k.0, omega arith, ltb-true _ _ k.1))
    (λ d. both_true (digits_number (b ∷ bs) d.0 d.1) (lt-ltb _ _ d.2))

pub integer_parsed : {E : Type 0} (bs : List ℕ) (r : Result ℤ E) → is_integerlike bs ≡ true → ParsesSigned w128 10 bs r
    → option_map int (result_ok r) ≡ integer_value bs
unfolding integer_value
integer_parsed [] r h p = cc
integer_parsed (b ∷ bs) r h p = parsed_at b bs r (nat_eq b 45) refl h p

-- what is read as a constant, a word or an integer is denoted
constant : (bs : List ℕ) (v : PlainValue) (t : Bool) (a : PlainValue) (o : Option PlainValue) → (t ≡ true → Denotes bs a) → (o ≡ Some v → Denotes bs v)
    → (if t then Some a else o) ≡ Some v → Denotes bs v
constant bs v true a o f g e = let k : a ≡ v = cc in subst (λ x. Denotes bs x) k (f refl)
constant bs v false a o f g e = g e

same_true : (bs cs : List ℕ) → same_bytes bs cs ≡ true → bs ≡ cs
same_true bs cs h = (slice_eq-Decides Decides-eqb bs cs _ refl).0 h

spelled : (bs cs : List ℕ) (v : PlainValue) → Denotes cs v → same_bytes bs cs ≡ true → Denotes bs v
spelled bs cs v d h = subst (λ x. Denotes x v) (sym (same_true bs cs h)) d

word_denotes : (bs : List ℕ) (v : PlainValue) → word_value bs ≡ Some v → Denotes bs v
unfolding word_value
word_denotes bs v e =
    constant bs v (is_word bs && is_light bs) (word bs) None (λ t. denotes_word bs (and_parts (is_word bs) (is_light bs) t).0) (λ n. cc) e

integer_denotes_at : (b : ℕ) (bs : List ℕ) (v : PlainValue) (m : Bool) → nat_eq b 45 ≡ m
    → (if m then (if is_number bs && nat_le (number_of bs) (2 ^ 127) then Some (int (neg_ℤ (pos (number_of bs)))) else None)
    else (if is_number (b ∷ bs) && nat_lt (number_of (b ∷ bs)) (2 ^ 127) then Some (int (pos (number_of (b ∷ bs)))) else None)) ≡ Some v
    → Denotes (b ∷ bs) v
integer_denotes_at b bs v true m e =
    constant (b ∷ bs) v (is_number bs && nat_le (number_of bs) (2 ^ 127)) _ None
    (λ t. let k = and_parts (is_number bs) (nat_le (number_of bs) (2 ^ 127)) t in
    subst (λ x. Denotes (x ∷ bs) (int (neg_ℤ (pos (number_of bs))))) (sym (eqb-true b 45 m)) (denotes_minus bs k.0 (leb-true _ _ k.1)))
    (λ n. cc) e
integer_denotes_at b bs v false m e =
    constant (b ∷ bs) v (is_number (b ∷ bs) && nat_lt (number_of (b ∷ bs)) (2 ^ 127)) _ None
    (λ t. let k = and_parts (is_number (b ∷ bs)) (nat_lt (number_of (b ∷ bs)) (2 ^ 127)) t in denotes_number (b ∷ bs) k.0 (ltb-true _ _ k.1))
    (λ n. cc) e

integer_denotes : (bs : List ℕ) (v : PlainValue) → integer_value bs ≡ Some v → Denotes bs v
unfolding integer_value
integer_denotes [] v e = cc
integer_denotes (b ∷ bs) v e = integer_denotes_at b bs v (nat_eq b 45) refl e

either_denotes : (bs : List ℕ) (v : PlainValue) (t : Bool) → (if t then word_value bs else integer_value bs) ≡ Some v → Denotes bs v
either_denotes bs v true e = word_denotes bs v e
either_denotes bs v false e = integer_denotes bs v e

pub atom_denotes : (bs : List ℕ) (v : PlainValue) → atom_value bs ≡ Some v → Denotes bs v
unfolding atom_value
atom_denotes bs v e =
    constant bs v (same_bytes bs (codes "true")) (truth true) _ (spelled bs _ _ denotes_true)
    (constant bs v (same_bytes bs (codes "false")) (truth false) _ (spelled bs _ _ denotes_false)
    (constant bs v (same_bytes bs (codes "eod")) eod _ (spelled bs _ _ denotes_eod)
    (constant bs v (same_bytes bs (codes "error")) fault _ (spelled bs _ _ denotes_fault)
    (either_denotes bs v (is_wordlike bs))))) e

-- and what is denoted is read
other : (d c : ℕ) → d ≤ 57 → 57 < c → nat_eq d c ≡ false
other d c h k = grind (arith, nat_tests)

digit_no_letter : (d : ℕ) → d ≤ 57 → is_ascii_alphabetic d ≡ false
digit_no_letter d h = grind (arith, nat_tests)

number_read : (d : ℕ) (ds : List ℕ) → is_number (d ∷ ds) ≡ true → number_of (d ∷ ds) < 2 ^ 127 → atom_value (d ∷ ds) ≡ Some (int (pos (number_of (d ∷ ds))))
unfolding atom_value integer_value
number_read d ds h lt =
    let k = first_digit d ds h in
    let t = other d 116 k.1 (omega arith) in
    let f = other d 102 k.1 (omega arith) in
    let e = other d 101 k.1 (omega arith) in
    let l = digit_no_letter d k.1 in
    let m : nat_eq d 45 ≡ false = grind (arith, nat_tests) in
    let b = lt-ltb _ _ lt in
    rw (t, f, e, l, m, h, b) refl

minus_read : (ds : List ℕ) → is_number ds ≡ true → number_of ds ≤ 2 ^ 127 → atom_value (45 ∷ ds) ≡ Some (int (neg_ℤ (pos (number_of ds))))
unfolding atom_value integer_value
minus_read ds h le = let b = le-leb _ _ le in rw (h, b) refl

-- a word is none of the four constants
unspelled : (p q r s : Bool) → not (p || q || r || s) ≡ true → (p ≡ false) × (q ≡ false) × (r ≡ false) × (s ≡ false)
unspelled true q r s h = cc
unspelled false true r s h = cc
unspelled false false true s h = cc
unspelled false false false true h = cc
unspelled false false false false h = (refl, refl, refl, refl)

word_read : (bs : List ℕ) → is_word bs ≡ true → is_light bs ≡ true → atom_value bs ≡ Some (word bs)
unfolding atom_value word_value
word_read bs h l =
    let k = and_parts (is_wordlike bs) (not (spells_constant bs)) h in
    let u = unspelled (same_bytes bs (codes "true")) (same_bytes bs (codes "false")) (same_bytes bs (codes "eod")) (same_bytes bs (codes "error")) k.1 in
    let w = k.0 in
    rw (u.0, u.1, u.2, u.3, w) (rw l refl)

-- a value that is written without quotes and marks
abbrev pub is_atomic : PlainValue → Bool
is_atomic (text bs) = false
is_atomic (list vs) = false
is_atomic _ = true

pub atom_read : (bs : List ℕ) (v : PlainValue) → Denotes bs v → is_atomic v ≡ true → weight v ≤ 65536 → atom_value bs ≡ Some v
unfolding atom_value
atom_read bs v (denotes_number [] h lt) a w = cc
atom_read bs v (denotes_number (d ∷ ds) h lt) a w = number_read d ds h lt
atom_read bs v (denotes_minus ds h le) a w = minus_read ds h le
atom_read bs v (denotes_word bs' h) a w = word_read bs' h (lt-ltb _ _ (omega arith))
atom_read bs v (denotes_text bs' h) a w = cc
atom_read bs v (denotes_list bs' vs d) a w = cc
atom_read bs v _ a w = refl

-- all its bytes are those of atoms
digit_atom : (d : ℕ) → is_ascii_digit d ≡ true → is_atom_byte d ≡ true
digit_atom d h = grind (arith, nat_tests)

letter_atom : (b : ℕ) → is_ascii_alphanumeric b ≡ true → is_atom_byte b ≡ true
letter_atom b h = or_left (is_ascii_alphanumeric b) (nat_eq b 45) h

alphabetic_atom : (b : ℕ) → is_ascii_alphabetic b ≡ true → is_atom_byte b ≡ true
alphabetic_atom b h = grind (arith, nat_tests)

all_atoms : (p : ℕ → Bool) → ((b : ℕ) → p b ≡ true → is_atom_byte b ≡ true) → (bs : List ℕ) → list_all p bs ≡ true → list_all is_atom_byte bs ≡ true
all_atoms p f [] h = refl
all_atoms p f (b ∷ bs) h = let k = and_parts (p b) (list_all p bs) h in both_true (f b k.0) (all_atoms p f bs k.1)

word_atoms : (bs : List ℕ) → is_wordlike bs ≡ true → list_all is_atom_byte bs ≡ true
word_atoms [] h = cc
word_atoms (b ∷ bs) h =
    let k = and_parts (is_ascii_alphabetic b) (list_all is_ascii_alphanumeric bs) h in
    both_true (alphabetic_atom b k.0) (all_atoms is_ascii_alphanumeric letter_atom bs k.1)

pub atom_bytes : (bs : List ℕ) (v : PlainValue) → Denotes bs v → is_atomic v ≡ true → list_all is_atom_byte bs ≡ true
atom_bytes bs v (denotes_number ds h lt) a = all_atoms is_ascii_digit digit_atom ds (number_digits ds h)
atom_bytes bs v (denotes_minus ds h le) a = all_atoms is_ascii_digit digit_atom ds (number_digits ds h)
atom_bytes bs v (denotes_word bs' h) a = word_atoms bs' (and_parts (is_wordlike bs') (not (spells_constant bs')) h).0
atom_bytes bs v (denotes_text bs' h) a = cc
atom_bytes bs v (denotes_list bs' vs d) a = cc
atom_bytes bs v _ a = refl
