-- The texts of tokens, in front of other bytes.
use Rattle.lucid_scan.proofs.Common.{◌≡◌, ℕ, ◌+◌, ◌^◌, ◌<◌, List, [], ◌∷◌, ◌++◌, length, take, drop, Bool, true, false, cond, not, ◌||◌, eqb, inl, inr, refl, sym, ◌∙◌, ap, subst, arith, length-append, list_all, is_ascii_alphabetic, is_ascii_digit, is_ascii_alphanumeric, and_parts, or_cases, or_parts, not-true, eqb-true, cases_lt, cond-false, both_ways, false_from_ne_true, take-append_seam, is_text_byte, is_namelike, is_name_byte, is_reserved, is_number, number_of, IsListFront, TokenKind, marks, is_mark, first_passes, is_word_value, is_text_value, IsTokenText, Stands, IsLongest, gap, comment, IsLongestMark, ◌&&◌, and_left, drop-append_seam}
use Rattle.lucid_value.specs.Reading.{is_blank}
use Rattle.lucid_scan.specs.declared.token.TokenKind.TheVariants as kind
use Rattle.lucid_scan.specs.Tokens.{is_slash}
use Rattle.lucid_scan.specs.Laws.{Stops}
use Rattle.lucid_scan.proofs.Runs.{run_is}
use Rattle.lucid_scan.proofs.Lead.{class_of, lead, leads, among_all, mark_lead, reserved_first, reserved_lead}
use Rattle.lucid_scan.proofs.Between.{closed}
use Rattle.lucid_scan.proofs.Longest.{name_runs, number_runs, word_runs, text_runs, reserved_runs, mark_most, quoted_only, text_only, name_stands, reserved_stands, number_stands, mark_stands, mark_or_none, mark_or_list}

-- the first byte
first-append : (p : ℕ → Bool) (text after : List ℕ) → 0 < length text → first_passes p (text ++ after) ≡ first_passes p text
first-append p [] after h = absurd (omega arith)
first-append p (x ∷ text) after h = refl

lead-append : (text after : List ℕ) → 0 < length text → lead (text ++ after) ≡ lead text
lead-append [] after h = absurd (omega arith)
lead-append (x ∷ text) after h = refl

has_some : (k : TokenKind) (text after : List ℕ) → IsTokenText k text after → 0 < length text
has_some k (x ∷ text) after h = omega arith
has_some kind.Name [] after h = let l = leads kind.Name [] after h in absurd (omega (arith, l))
has_some kind.Int [] after h = let l = leads kind.Int [] after h in absurd (omega (arith, l))
has_some kind.Quoted [] after h = let l = leads kind.Quoted [] after h in absurd (omega (arith, l))
has_some kind.Text [] after h = let l = leads kind.Text [] after h in absurd (omega (arith, l))
has_some kind.ListText [] after h = let l = leads kind.ListText [] after h in absurd (omega (arith, l))
has_some kind.Fixed [] after h = elim (or_cases (is_mark []) (is_reserved []) h) [
  | inl m ↦ cc
  | inr r ↦ let l = reserved_lead [] r in absurd (omega (arith, l))
]

name_first : (t : List ℕ) → is_namelike t ≡ true → first_passes is_ascii_alphabetic t ≡ true
name_first [] h = cc
name_first (b ∷ t) h = (and_parts (is_ascii_alphabetic b) (list_all is_name_byte t) h).0

number_first : (t : List ℕ) → is_number t ≡ true → first_passes is_ascii_digit t ≡ true
number_first [] h = cc
number_first (b ∷ t) h = (and_parts (is_ascii_digit b) (list_all is_ascii_digit t) h).0

module _ (text after : List ℕ) where
  -- the text is a token where it stands
  own : (k : TokenKind) → IsTokenText k text after → Stands (text ++ after) k (length text)
  own k h = record {
    within = omega (arith, length-append text after);
    some = has_some k text after h;
    text = subst (λ t. IsTokenText k t (drop (length text) (text ++ after))) (sym (take-append_seam text after))
        (subst (λ a. IsTokenText k text a) (sym (drop-append_seam text after)) h);
  }

  lead_here : (k : TokenKind) → IsTokenText k text after → lead (text ++ after) ≡ lead text
  lead_here k h = lead-append text after (has_some k text after h)

  mark_longest : is_mark text ≡ true → (is_mark (take 2 (text ++ after)) ≡ true → length text ≡ 2) → IsTokenText kind.Fixed text after
      → IsLongestMark (text ++ after) (length text)
  mark_longest m stop h = record {
    stands = record { within = (own kind.Fixed h).within; mark = ap is_mark (take-append_seam text after) ∙ m };
    longest = λ n f.
        let most = mark_most (text ++ after) n f.within f.mark in
        let some = has_some kind.Fixed text after h in
        elim (cases_lt (length text) n) [
          | inl lt ↦
              let two : n ≡ 2 = omega (arith, most, some, lt) in
              let whole = stop (subst (λ i. is_mark (take i (text ++ after)) ≡ true) two f.mark) in
              omega (arith, whole, most)
          | inr ge ↦ ge
        ];
  }

  -- and the longest one
  module _ (one : (m n : ℕ) → IsListFront (text ++ after) m → IsListFront (text ++ after) n → m ≡ n) where
    pub text_longest : (k : TokenKind) → IsTokenText k text after → Stops k text after → IsLongest (text ++ after) k (length text)
    text_longest kind.Name h stop =
        let like = (and_parts (is_namelike text) (not (is_reserved text)) h).0 in
        name_stands (text ++ after) (length text) (sym (run_is is_name_byte text after (name_runs text like) stop))
        (first-append is_ascii_alphabetic text after (has_some kind.Name text after h) ∙ name_first text like)
        (ap is_reserved (take-append_seam text after) ∙ not-true (is_reserved text) (and_parts (is_namelike text) (not (is_reserved text)) h).1)
    text_longest kind.Int h stop =
        number_stands (text ++ after) (length text) (sym (run_is is_ascii_digit text after (number_runs text h.0) h.1))
        (first-append is_ascii_digit text after (has_some kind.Int text after h) ∙ number_first text h.0)
        (subst (λ t. number_of t < 2 ^ 127) (sym (take-append_seam text after)) h.2)
    text_longest kind.Quoted h stop = record {
      stands = own kind.Quoted h;
      longest = λ j m s.
          let there : lead (text ++ after) ≡ 2 = lead_here kind.Quoted h ∙ leads kind.Quoted text after h in
          let all = closed 34 34 is_word_value is_ascii_alphanumeric refl word_runs (text ++ after) (length text) (own kind.Quoted h).within
          (own kind.Quoted h).text in
          let other = closed 34 34 is_word_value is_ascii_alphanumeric refl word_runs (text ++ after) m s.within (quoted_only (text ++ after) there j m s) in
          omega (arith, all.0, other.0);
    }
    text_longest kind.Text h stop = record {
      stands = own kind.Text h;
      longest = λ j m s.
          let there : lead (text ++ after) ≡ 3 = lead_here kind.Text h ∙ leads kind.Text text after h in
          let all = closed 96 39 is_text_value is_text_byte refl text_runs (text ++ after) (length text) (own kind.Text h).within (own kind.Text h).text in
          let other = closed 96 39 is_text_value is_text_byte refl text_runs (text ++ after) m s.within (text_only (text ++ after) there j m s) in
          omega (arith, all.0, other.0);
    }
    text_longest kind.ListText h stop =
        let there : lead (text ++ after) ≡ 4 = lead_here kind.ListText h ∙ leads kind.ListText text after h in
        let here = own kind.ListText h in
        let front : IsListFront (text ++ after) (length text) = record { within = here.within; items = here.text.0; reads = here.text.1 } in
        record {
          stands = here;
          longest = λ j m s. elim (mark_or_list (text ++ after) (omega (arith, there)) j m s) [
            | inl mark ↦ absurd (mark_or_none (text ++ after) (length text) m mark front)
            | inr other ↦ let e = one m (length text) other front in omega (arith, e)
          ];
        }
    text_longest kind.Fixed h (inl stop) =
        reserved_stands (text ++ after) (length text) (sym (run_is is_name_byte text after (reserved_runs text stop.0) stop.1))
        (first-append is_ascii_alphabetic text after (has_some kind.Fixed text after h) ∙ reserved_first text stop.0)
        (ap is_reserved (take-append_seam text after) ∙ stop.0)
    text_longest kind.Fixed h (inr stop) =
        let high = mark_lead text stop.0 in
        mark_stands (text ++ after) (length text) (omega (arith, lead_here kind.Fixed h, high)) (mark_longest stop.0 stop.1 h)

-- a byte with which a blank or a comment begins
abbrev begins_gap : ℕ → Bool
begins_gap b = is_blank b || is_slash b

class_of_gap : (b : ℕ) → begins_gap b ≡ true → class_of b ≡ 5
class_of_gap b h = elim (or_cases (is_blank b) (eqb b 47) h) [
  | inl w ↦ elim (or_cases ((eqb b 9 || eqb b 10) || eqb b 13) (eqb b 32) w) [
    | inl v ↦ elim (or_cases (eqb b 9 || eqb b 10) (eqb b 13) v) [
      | inl u ↦ elim (or_cases (eqb b 9) (eqb b 10) u) [ inl e ↦ ap class_of (eqb-true b 9 e) | inr e ↦ ap class_of (eqb-true b 10 e) ]
      | inr e ↦ ap class_of (eqb-true b 13 e)
    ]
    | inr e ↦ ap class_of (eqb-true b 32 e)
  ]
  | inr e ↦ ap class_of (eqb-true b 47 e)
]

gap_lead : (t : List ℕ) → first_passes begins_gap t ≡ true → lead t ≡ 5
gap_lead [] h = cc
gap_lead (b ∷ t) h = class_of_gap b h

none_gap : (t : List ℕ) → not (first_passes begins_gap t) ≡ true → first_passes begins_gap t ≡ true → ⊥
none_gap t h g = both_ways (first_passes begins_gap t) (not-true (first_passes begins_gap t) h) g

begins_none : (k : TokenKind) (text after : List ℕ) → IsTokenText k text after → first_passes begins_gap text ≡ true → ⊥
begins_none kind.Name text after h g = let l = leads kind.Name text after h in omega (arith, l, gap_lead text g)
begins_none kind.Int text after h g = let l = leads kind.Int text after h in omega (arith, l, gap_lead text g)
begins_none kind.Quoted text after h g = let l = leads kind.Quoted text after h in omega (arith, l, gap_lead text g)
begins_none kind.Text text after h g = let l = leads kind.Text text after h in omega (arith, l, gap_lead text g)
begins_none kind.ListText text after h g = let l = leads kind.ListText text after h in omega (arith, l, gap_lead text g)
begins_none kind.Fixed text after h g = elim (or_cases (is_mark text) (is_reserved text) h) [
  | inl m ↦ none_gap text (among_all (λ mark. not (first_passes begins_gap mark)) marks text m refl) g
  | inr r ↦ let l = reserved_lead text r in omega (arith, l, gap_lead text g)
]

no_gap : (xs : List ℕ) → first_passes begins_gap xs ≡ false → gap xs ≡ 0
no_gap [] h = refl
no_gap (x ∷ xs) h =
    let p = or_parts (is_blank x) (is_slash x) h in
    cond-false (is_blank x) (gap xs + 1) (cond (is_slash x && first_passes is_slash xs) (comment xs + 1) 0) p.0
    ∙ cond-false (is_slash x && first_passes is_slash xs) (comment xs + 1) 0 (and_left (is_slash x) (first_passes is_slash xs) p.1)

pub text_no_gap : (k : TokenKind) (text after : List ℕ) → IsTokenText k text after → gap (text ++ after) ≡ 0
text_no_gap k text after h =
    no_gap (text ++ after)
    (first-append begins_gap text after (has_some k text after h) ∙ false_from_ne_true (first_passes begins_gap text) (begins_none k text after h))
