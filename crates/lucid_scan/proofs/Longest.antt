-- Which token stands at the front of bytes, by the first byte.
use Rattle.lucid_scan.proofs.Common.{◌≡◌, ℕ, zero, suc, ◌+◌, ◌≤◌, ◌<◌, ◌^◌, List, [], ◌∷◌, ◌++◌, length, take, drop, get_or, true, false, not, ◌||◌, eqb, leb, ◌⊎◌, inl, inr, refl, sym, ◌∙◌, ap, subst, arith, list_all, prefix_len, is_ascii_alphabetic, is_ascii_digit, is_ascii_alphanumeric, is_in_range, and_parts, and_from, or_cases, leb-true, eqb-true, cases_lt, both_ways, same_text, same_bytes, is_text_byte, is_namelike, is_name_byte, is_reserved, reserved_words, is_number, number_of, IsListFront, TokenKind, marks, is_mark, first_passes, IsBetween, is_word_value, is_text_value, IsTokenText, Stands, IsLongest, NoneStands, Closed, IsLongestMark, is_other, length-take, or_left, or_right, not_from_false, prefix_len-le-length}
use Rattle.lucid_value.specs.Plain.{is_word, is_wordlike, is_text, is_light, spells_constant}
use Rattle.lucid_scan.specs.declared.token.TokenKind.TheVariants as kind
use Rattle.lucid_scan.specs.Fronts.{IsMarkFront, NoMarkStands}
use Rattle.lucid_scan.proofs.Runs.{run_most, run_passes, run_stops, run_some, run_inside, first-take, first_more}
use Rattle.lucid_scan.proofs.Lead.{lead, letter_lead, digit_lead, byte_lead, other_lead, among_all, mark_lead, reserved_lead, stands_lead, lead-take}
use Rattle.lucid_scan.proofs.ListTexts.{list_shape}
use Rattle.lucid_scan.proofs.Between.{closed, between}

-- the bytes of names and words
letter_in_word : (b : ℕ) → is_ascii_alphabetic b ≡ true → is_ascii_alphanumeric b ≡ true
letter_in_word b h = elim (or_cases (is_in_range 65 90 b) (is_in_range 97 122 b) h) [
  | inl u ↦ or_left (is_in_range 48 57 b || is_in_range 65 90 b) (is_in_range 97 122 b) (or_right (is_in_range 48 57 b) (is_in_range 65 90 b) u)
  | inr u ↦ or_right (is_in_range 48 57 b || is_in_range 65 90 b) (is_in_range 97 122 b) u
]

letter_in_name : (b : ℕ) → is_ascii_alphabetic b ≡ true → is_name_byte b ≡ true
letter_in_name b h = or_left (is_ascii_alphanumeric b) (eqb b 95) (letter_in_word b h)

pub name_runs : (t : List ℕ) → is_namelike t ≡ true → list_all is_name_byte t ≡ true
name_runs [] h = cc
name_runs (b ∷ t) h = let p = and_parts (is_ascii_alphabetic b) (list_all is_name_byte t) h in
    and_from (is_name_byte b) (list_all is_name_byte t) (letter_in_name b p.0) p.1

namelike : (t : List ℕ) → first_passes is_ascii_alphabetic t ≡ true → list_all is_name_byte t ≡ true → is_namelike t ≡ true
namelike [] f h = cc
namelike (b ∷ t) f h = and_from (is_ascii_alphabetic b) (list_all is_name_byte t) f (and_parts (is_name_byte b) (list_all is_name_byte t) h).1

pub number_runs : (t : List ℕ) → is_number t ≡ true → list_all is_ascii_digit t ≡ true
number_runs [] h = cc
number_runs (b ∷ t) h = h

number : (t : List ℕ) → first_passes is_ascii_digit t ≡ true → list_all is_ascii_digit t ≡ true → is_number t ≡ true
number [] f h = cc
number (b ∷ t) f h = h

wordlike_runs : (t : List ℕ) → is_wordlike t ≡ true → list_all is_ascii_alphanumeric t ≡ true
wordlike_runs [] h = cc
wordlike_runs (b ∷ t) h =
    let p = and_parts (is_ascii_alphabetic b) (list_all is_ascii_alphanumeric t) h in
    and_from (is_ascii_alphanumeric b) (list_all is_ascii_alphanumeric t) (letter_in_word b p.0) p.1

pub word_runs : (t : List ℕ) → is_word_value t ≡ true → list_all is_ascii_alphanumeric t ≡ true
word_runs t h = wordlike_runs t (and_parts (is_wordlike t) (not (spells_constant t)) (and_parts (is_word t) (is_light t) h).0).0

pub text_runs : (t : List ℕ) → is_text_value t ≡ true → list_all is_text_byte t ≡ true
text_runs t h = (and_parts (is_text t) (is_light t) h).0

reserved_in_name : list_all (list_all is_name_byte) reserved_words ≡ true
unfolding reserved_words
reserved_in_name = refl

pub reserved_runs : (t : List ℕ) → is_reserved t ≡ true → list_all is_name_byte t ≡ true
reserved_runs t h = among_all (list_all is_name_byte) reserved_words t h reserved_in_name

mark_short : (t : List ℕ) → is_mark t ≡ true → length t ≤ 2
mark_short t h = leb-true (length t) 2 (among_all (λ mark. leb (length mark) 2) marks t h refl)

-- where a letter stands, a token is a run of the bytes of names
word_longest : (bytes : List ℕ) → lead bytes ≡ 0 → (j : TokenKind) (m : ℕ) → Stands bytes j m → m ≤ prefix_len is_name_byte bytes
word_longest bytes f kind.Name m s =
    run_most is_name_byte bytes m s.within (name_runs (take m bytes) (and_parts (is_namelike (take m bytes)) (not (is_reserved (take m bytes))) s.text).0)
word_longest bytes f kind.Int m s = let l = stands_lead bytes kind.Int m s in absurd (omega (arith, f, l))
word_longest bytes f kind.Quoted m s = let l = stands_lead bytes kind.Quoted m s in absurd (omega (arith, f, l))
word_longest bytes f kind.Text m s = let l = stands_lead bytes kind.Text m s in absurd (omega (arith, f, l))
word_longest bytes f kind.ListText m s = let l = stands_lead bytes kind.ListText m s in absurd (omega (arith, f, l))
word_longest bytes f kind.Fixed m s = elim (or_cases (is_mark (take m bytes)) (is_reserved (take m bytes)) s.text) [
  | inl h ↦ absurd (let l = mark_lead (take m bytes) h in omega (arith, f, l, lead-take bytes m s.some))
  | inr h ↦ run_most is_name_byte bytes m s.within (reserved_runs (take m bytes) h)
]

-- where a digit stands, a token is all the digits, with a value that fits
number_only : (bytes : List ℕ) → lead bytes ≡ 1 → (j : TokenKind) (m : ℕ) → Stands bytes j m → IsTokenText kind.Int (take m bytes) (drop m bytes)
number_only bytes f kind.Name m s = let l = stands_lead bytes kind.Name m s in absurd (omega (arith, f, l))
number_only bytes f kind.Int m s = s.text
number_only bytes f kind.Quoted m s = let l = stands_lead bytes kind.Quoted m s in absurd (omega (arith, f, l))
number_only bytes f kind.Text m s = let l = stands_lead bytes kind.Text m s in absurd (omega (arith, f, l))
number_only bytes f kind.ListText m s = let l = stands_lead bytes kind.ListText m s in absurd (omega (arith, f, l))
number_only bytes f kind.Fixed m s = elim (stands_lead bytes kind.Fixed m s) [ inl l ↦ absurd (omega (arith, f, l)) | inr l ↦ absurd (omega (arith, f, l)) ]

-- where `"` stands, a token is a quoted word
pub quoted_only : (bytes : List ℕ) → lead bytes ≡ 2 → (j : TokenKind) (m : ℕ) → Stands bytes j m → IsBetween 34 34 is_word_value (take m bytes)
quoted_only bytes f kind.Name m s = let l = stands_lead bytes kind.Name m s in absurd (omega (arith, f, l))
quoted_only bytes f kind.Int m s = let l = stands_lead bytes kind.Int m s in absurd (omega (arith, f, l))
quoted_only bytes f kind.Quoted m s = s.text
quoted_only bytes f kind.Text m s = let l = stands_lead bytes kind.Text m s in absurd (omega (arith, f, l))
quoted_only bytes f kind.ListText m s = let l = stands_lead bytes kind.ListText m s in absurd (omega (arith, f, l))
quoted_only bytes f kind.Fixed m s = elim (stands_lead bytes kind.Fixed m s) [ inl l ↦ absurd (omega (arith, f, l)) | inr l ↦ absurd (omega (arith, f, l)) ]

-- where a backquote stands, a token is a string
pub text_only : (bytes : List ℕ) → lead bytes ≡ 3 → (j : TokenKind) (m : ℕ) → Stands bytes j m → IsBetween 96 39 is_text_value (take m bytes)
text_only bytes f kind.Name m s = let l = stands_lead bytes kind.Name m s in absurd (omega (arith, f, l))
text_only bytes f kind.Int m s = let l = stands_lead bytes kind.Int m s in absurd (omega (arith, f, l))
text_only bytes f kind.Quoted m s = let l = stands_lead bytes kind.Quoted m s in absurd (omega (arith, f, l))
text_only bytes f kind.Text m s = s.text
text_only bytes f kind.ListText m s = let l = stands_lead bytes kind.ListText m s in absurd (omega (arith, f, l))
text_only bytes f kind.Fixed m s = elim (stands_lead bytes kind.Fixed m s) [ inl l ↦ absurd (omega (arith, f, l)) | inr l ↦ absurd (omega (arith, f, l)) ]

-- elsewhere a token is a mark or a list
pub mark_or_list : (bytes : List ℕ) → 4 ≤ lead bytes → (j : TokenKind) (m : ℕ) → Stands bytes j m → (is_mark (take m bytes) ≡ true) ⊎ IsListFront bytes m
mark_or_list bytes f kind.Name m s = let l = stands_lead bytes kind.Name m s in absurd (omega (arith, f, l))
mark_or_list bytes f kind.Int m s = let l = stands_lead bytes kind.Int m s in absurd (omega (arith, f, l))
mark_or_list bytes f kind.Quoted m s = let l = stands_lead bytes kind.Quoted m s in absurd (omega (arith, f, l))
mark_or_list bytes f kind.Text m s = let l = stands_lead bytes kind.Text m s in absurd (omega (arith, f, l))
mark_or_list bytes f kind.ListText m s = inr (record { within = s.within; items = s.text.0; reads = s.text.1 })
mark_or_list bytes f kind.Fixed m s = elim (or_cases (is_mark (take m bytes)) (is_reserved (take m bytes)) s.text) [
  | inl h ↦ inl h
  | inr h ↦ absurd (let l = reserved_lead (take m bytes) h in omega (arith, f, l, lead-take bytes m s.some))
]

pub mark_most : (bytes : List ℕ) (m : ℕ) → m ≤ length bytes → is_mark (take m bytes) ≡ true → m ≤ 2
mark_most bytes m within h = let len = mark_short (take m bytes) h in omega (arith, len, length-take m bytes)

mark_some : (bytes : List ℕ) (m : ℕ) → is_mark (take m bytes) ≡ true → 0 < m
mark_some bytes zero h = cc
mark_some bytes (suc m) h = omega arith

-- a mark has one byte or two
pub two_marks : (bytes : List ℕ) → IsMarkFront bytes 2 → IsLongestMark bytes 2
two_marks bytes two = record { stands = two; longest = λ m h. mark_most bytes m h.within h.mark }

at_two : (bytes : List ℕ) (m : ℕ) → IsMarkFront bytes m → 2 ≤ m → IsMarkFront bytes 2
at_two bytes m h more = let most = mark_most bytes m h.within h.mark in subst (IsMarkFront bytes) (omega (arith, most, more)) h

pub one_mark : (bytes : List ℕ) → (IsMarkFront bytes 2 → ⊥) → IsMarkFront bytes 1 → IsLongestMark bytes 1
one_mark bytes no_two one = record {
  stands = one;
  longest = λ m h. elim (cases_lt m 2) [ inl lt ↦ omega (arith, lt) | inr ge ↦ absurd (no_two (at_two bytes m h ge)) ];
}

pub no_mark : (bytes : List ℕ) → (IsMarkFront bytes 2 → ⊥) → (IsMarkFront bytes 1 → ⊥) → NoMarkStands bytes
no_mark bytes no_two no_one m h = elim (cases_lt m 2) [
  | inl lt ↦ let some = mark_some bytes m h.mark in no_one (subst (IsMarkFront bytes) (omega (arith, lt, some)) h)
  | inr ge ↦ no_two (at_two bytes m h ge)
]

-- where marks and lists can stand, a mark and a list don't both
second : (bytes rest : List ℕ) (n x y : ℕ) → take n bytes ≡ x ∷ (y ∷ rest) → get_or bytes 1 0 ≡ y
second bytes rest zero x y e = cc
second [] rest (suc n) x y e = cc
second (a ∷ []) rest (suc zero) x y e = cc
second (a ∷ []) rest (suc (suc n)) x y e = cc
second (a ∷ (b ∷ bytes)) rest (suc zero) x y e = cc
second (a ∷ (b ∷ bytes)) rest (suc (suc n)) x y e = cc

list_some : (bytes : List ℕ) (m : ℕ) → IsListFront bytes m → 0 < m
list_some bytes zero f = absurd (empty (list_shape f.reads.denotes))
  where
    empty : (bs : List ℕ) × ([] ≡ 91 ∷ (37 ∷ (bs ++ 37 ∷ (93 ∷ [])))) → ⊥
    empty (bs, e) = cc
list_some bytes (suc m) f = omega arith

list_lead : (bytes : List ℕ) (m : ℕ) → IsListFront bytes m → lead bytes ≡ 4
list_lead bytes m f = sym (lead-take bytes m (list_some bytes m f)) ∙ ap lead (list_shape f.reads.denotes).1

pub no_list : (bytes : List ℕ) → lead bytes ≡ 5 → (m : ℕ) → IsListFront bytes m → ⊥
no_list bytes l m f = let k = list_lead bytes m f in omega (arith, k, l)

pub mark_kind : (t : List ℕ) → is_mark t ≡ true → (eqb (lead t) 5 || same_bytes t (91 ∷ (93 ∷ []))) ≡ true
mark_kind t h = among_all (λ u. eqb (lead u) 5 || same_bytes u (91 ∷ (93 ∷ []))) marks t h refl

pub mark_or_none : (bytes : List ℕ) (m n : ℕ) → is_mark (take n bytes) ≡ true → IsListFront bytes m → ⊥
mark_or_none bytes m n h f = elim (or_cases (eqb (lead (take n bytes)) 5) (same_bytes (take n bytes) (91 ∷ (93 ∷ []))) (mark_kind (take n bytes) h)) [
  | inl e ↦ let l = eqb-true (lead (take n bytes)) 5 e in omega (arith, l, lead-take bytes n (mark_some bytes n h), list_lead bytes m f)
  | inr e ↦
      let shape = list_shape f.reads.denotes in
      let percent : get_or bytes 1 0 ≡ 37 = second bytes (shape.0 ++ 37 ∷ (93 ∷ [])) m 91 37 shape.1 in
      let bracket : get_or bytes 1 0 ≡ 93 = second bytes [] n 91 93 (same_text (take n bytes) (91 ∷ (93 ∷ [])) (sym e)) in
      omega (arith, percent, bracket)
]

-- the token that stands, or none, for each first byte
module _ (bytes : List ℕ) where
  module _ (n : ℕ) (is : n ≡ prefix_len is_name_byte bytes) (f : first_passes is_ascii_alphabetic bytes ≡ true) where
    run : list_all is_name_byte (take n bytes) ≡ true
    run = subst (λ m. list_all is_name_byte (take m bytes) ≡ true) (sym is) (run_passes is_name_byte bytes)

    some : 0 < n
    some = let k = run_some is_name_byte bytes (first_more is_ascii_alphabetic is_name_byte letter_in_name bytes f) in omega (arith, k, is)

    pub name_stands : is_reserved (take n bytes) ≡ false → IsLongest bytes kind.Name n
    name_stands r = record {
      stands = record {
        within = omega (arith, prefix_len-le-length is_name_byte bytes, is);
        some = some;
        text = and_from (is_namelike (take n bytes)) (not (is_reserved (take n bytes)))
            (namelike (take n bytes) (first-take is_ascii_alphabetic bytes n some ∙ f) run)
            (not_from_false (is_reserved (take n bytes)) r);
      };
      longest = λ j m s. let most = word_longest bytes (letter_lead bytes f) j m s in omega (arith, most, is);
    }

    pub reserved_stands : is_reserved (take n bytes) ≡ true → IsLongest bytes kind.Fixed n
    reserved_stands r = record {
      stands = record {
        within = omega (arith, prefix_len-le-length is_name_byte bytes, is);
        some = some;
        text = or_right (is_mark (take n bytes)) (is_reserved (take n bytes)) r;
      };
      longest = λ j m s. let most = word_longest bytes (letter_lead bytes f) j m s in omega (arith, most, is);
    }

  module _ (n : ℕ) (is : n ≡ prefix_len is_ascii_digit bytes) where
    pub number_run : list_all is_ascii_digit (take n bytes) ≡ true
    number_run = subst (λ m. list_all is_ascii_digit (take m bytes) ≡ true) (sym is) (run_passes is_ascii_digit bytes)

    module _ (f : first_passes is_ascii_digit bytes ≡ true) where
      pub number_stands : number_of (take n bytes) < 2 ^ 127 → IsLongest bytes kind.Int n
      number_stands small =
          let k = run_some is_ascii_digit bytes f in
          let some_digit : 0 < n = omega (arith, k, is) in
          record {
            stands = record {
              within = omega (arith, prefix_len-le-length is_ascii_digit bytes, is);
              some = some_digit;
              text = (
                number (take n bytes) (first-take is_ascii_digit bytes n some_digit ∙ f) number_run,
                subst (λ m. first_passes is_ascii_digit (drop m bytes) ≡ false) (sym is) (run_stops is_ascii_digit bytes),
                small,
              );
            };
            longest = λ j m s.
                let text = number_only bytes (digit_lead bytes f) j m s in
                let most = run_most is_ascii_digit bytes m s.within (number_runs (take m bytes) text.0) in
                omega (arith, most, is);
          }

      pub number_none : (number_of (take n bytes) < 2 ^ 127 → ⊥) → NoneStands bytes
      number_none big j m s =
          let text = number_only bytes (digit_lead bytes f) j m s in
          let most = run_most is_ascii_digit bytes m s.within (number_runs (take m bytes) text.0) in
          elim (cases_lt m n) [
            | inl lt ↦ both_ways (first_passes is_ascii_digit (drop m bytes)) text.1 (run_inside is_ascii_digit bytes m (subst (λ i. m < i) is lt))
            | inr ge ↦
                let whole : m ≡ n = omega (arith, most, is, ge) in
                big (subst (λ i. number_of (take i bytes) < 2 ^ 127) whole text.2)
          ]

  module _ (n : ℕ) (is : n ≡ prefix_len is_ascii_alphanumeric (drop 1 bytes)) (f : first_passes (λ b. eqb b 34) bytes ≡ true) where
    pub quoted_stands : Closed 34 is_word_value (drop 1 bytes) n → IsLongest bytes kind.Quoted (n + 2)
    quoted_stands c =
        let there = between 34 34 is_word_value bytes n f c in
        record {
          stands = record { within = there.0; some = omega arith; text = there.1 };
          longest = λ j m s.
              let q = closed 34 34 is_word_value is_ascii_alphanumeric refl word_runs bytes m s.within (quoted_only bytes (byte_lead 34 bytes f) j m s) in
              omega (arith, q.0, is);
        }

    pub quoted_none : (Closed 34 is_word_value (drop 1 bytes) n → ⊥) → NoneStands bytes
    quoted_none unclosed j m s =
        let q = closed 34 34 is_word_value is_ascii_alphanumeric refl word_runs bytes m s.within (quoted_only bytes (byte_lead 34 bytes f) j m s) in
        unclosed (subst (Closed 34 is_word_value (drop 1 bytes)) (sym is) q.1)

  module _ (n : ℕ) (is : n ≡ prefix_len is_text_byte (drop 1 bytes)) (f : first_passes (λ b. eqb b 96) bytes ≡ true) where
    pub text_stands : Closed 39 is_text_value (drop 1 bytes) n → IsLongest bytes kind.Text (n + 2)
    text_stands c =
        let there = between 96 39 is_text_value bytes n f c in
        record {
          stands = record { within = there.0; some = omega arith; text = there.1 };
          longest = λ j m s.
              let q = closed 96 39 is_text_value is_text_byte refl text_runs bytes m s.within (text_only bytes (byte_lead 96 bytes f) j m s) in
              omega (arith, q.0, is);
        }

    pub text_none : (Closed 39 is_text_value (drop 1 bytes) n → ⊥) → NoneStands bytes
    text_none unclosed j m s =
        let q = closed 96 39 is_text_value is_text_byte refl text_runs bytes m s.within (text_only bytes (byte_lead 96 bytes f) j m s) in
        unclosed (subst (Closed 39 is_text_value (drop 1 bytes)) (sym is) q.1)

  pub mark_stands : (n : ℕ) → 4 ≤ lead bytes → IsLongestMark bytes n → IsLongest bytes kind.Fixed n
  mark_stands n f l = record {
    stands = record {
      within = l.stands.within;
      some = mark_some bytes n l.stands.mark;
      text = or_left (is_mark (take n bytes)) (is_reserved (take n bytes)) l.stands.mark;
    };
    longest = λ j m s. elim (mark_or_list bytes f j m s) [
      | inl h ↦ l.longest m (record { within = s.within; mark = h })
      | inr g ↦ absurd (mark_or_none bytes m n l.stands.mark g)
    ];
  }

  pub list_stands : (n : ℕ) → 4 ≤ lead bytes → NoMarkStands bytes → IsListFront bytes n → ((m : ℕ) → IsListFront bytes m → m ≡ n)
      → IsLongest bytes kind.ListText n
  list_stands n f unmarked g one = record {
    stands = record { within = g.within; some = list_some bytes n g; text = (g.items, g.reads) };
    longest = λ j m s. elim (mark_or_list bytes f j m s) [
      | inl h ↦ absurd (unmarked m (record { within = s.within; mark = h }))
      | inr k ↦ let e = one m k in omega (arith, e)
    ];
  }

  pub nothing_stands : 4 ≤ lead bytes → NoMarkStands bytes → ((m : ℕ) → IsListFront bytes m → ⊥) → NoneStands bytes
  nothing_stands f unmarked unclosed j m s = elim (mark_or_list bytes f j m s)
      [ inl h ↦ unmarked m (record { within = s.within; mark = h }) | inr k ↦ unclosed m k ]

pub bracket_lead : (bytes : List ℕ) → first_passes (λ b. eqb b 91) bytes ≡ true → 4 ≤ lead bytes
bracket_lead bytes f = let l : lead bytes ≡ 4 = byte_lead 91 bytes f in omega (arith, l)

pub mark_high : (bytes : List ℕ) → first_passes is_other bytes ≡ true → 4 ≤ lead bytes
mark_high bytes f = let l = other_lead bytes f in omega (arith, l)
