-- What the first byte of a token says of its kind.
use Rattle.lucid_scan.proofs.Common.{◌≡◌, ℕ, zero, suc, ◌≤◌, ◌<◌, List, [], ◌∷◌, take, drop, Bool, true, false, cond, not, ◌||◌, eqb, leb, ◌⊎◌, inl, inr, refl, sym, ◌∙◌, ap, subst, arith, list_all, is_ascii_alphabetic, is_ascii_digit, is_in_range, same_text, and_parts, or_cases, or_parts, not-true, leb-true, eqb-true, cond-false, false_from_ne_true, same_bytes, is_namelike, is_reserved, reserved_words, is_number, TokenKind, marks, is_mark, first_passes, IsTokenText, Stands, is_other, list_any, cond-true}
use Rattle.lucid_scan.specs.declared.token.TokenKind.TheVariants as kind
use Rattle.lucid_scan.proofs.ListTexts.{list_shape}

-- 0 for a letter, 1 for a digit, 2 for `"`, 3 for a backquote, 4 for `[` and 5 for any other byte
abbrev pub class_of : ℕ → ℕ
class_of b = cond (is_ascii_alphabetic b) 0 (cond (is_ascii_digit b) 1 (cond (eqb b 34) 2 (cond (eqb b 96) 3 (cond (eqb b 91) 4 5))))

-- that of the first byte, and 6 where there is none
abbrev pub lead : List ℕ → ℕ
lead [] = 6
lead (b ∷ bs) = class_of b

pub lead-take : (xs : List ℕ) (m : ℕ) → 0 < m → lead (take m xs) ≡ lead xs
lead-take xs zero h = absurd (omega arith)
lead-take [] (suc m) h = refl
lead-take (x ∷ xs) (suc m) h = refl

in_range : (low high b : ℕ) → is_in_range low high b ≡ true → (low ≤ b) × (b ≤ high)
in_range low high b h = let t = and_parts (leb low b) (leb b high) h in (leb-true low b t.0, leb-true b high t.1)

pub digit_no_letter : (b : ℕ) → is_ascii_digit b ≡ true → is_ascii_alphabetic b ≡ false
digit_no_letter b h = false_from_ne_true (is_ascii_alphabetic b) (λ l.
    let d = in_range 48 57 b h in
    elim (or_cases (is_in_range 65 90 b) (is_in_range 97 122 b) l) [
      | inl u ↦ let t = in_range 65 90 b u in omega (arith, d.1, t.0)
      | inr u ↦ let t = in_range 97 122 b u in omega (arith, d.1, t.0)
    ])

pub letter_lead : (t : List ℕ) → first_passes is_ascii_alphabetic t ≡ true → lead t ≡ 0
letter_lead [] h = cc
letter_lead (b ∷ t) h = cond-true (is_ascii_alphabetic b) _ _ h

pub digit_lead : (t : List ℕ) → first_passes is_ascii_digit t ≡ true → lead t ≡ 1
digit_lead [] h = cc
digit_lead (b ∷ t) h = cond-false (is_ascii_alphabetic b) _ _ (digit_no_letter b h) ∙ cond-true (is_ascii_digit b) _ _ h

-- the class of the one byte that passes
pub byte_lead : (n : ℕ) (t : List ℕ) → first_passes (λ b. eqb b n) t ≡ true → lead t ≡ class_of n
byte_lead n [] h = cc
byte_lead n (b ∷ t) h = ap class_of (eqb-true b n h)

pub other_lead : (t : List ℕ) → first_passes is_other t ≡ true → lead t ≡ 5
other_lead [] h = cc
other_lead (b ∷ t) h =
    let none = not-true (((is_ascii_alphabetic b || is_ascii_digit b) || eqb b 34) || eqb b 96 || eqb b 91) h in
    let no_bracket = or_parts (((is_ascii_alphabetic b || is_ascii_digit b) || eqb b 34) || eqb b 96) (eqb b 91) none in
    let no_backquote = or_parts ((is_ascii_alphabetic b || is_ascii_digit b) || eqb b 34) (eqb b 96) no_bracket.0 in
    let no_quote = or_parts (is_ascii_alphabetic b || is_ascii_digit b) (eqb b 34) no_backquote.0 in
    let no_digit = or_parts (is_ascii_alphabetic b) (is_ascii_digit b) no_quote.0 in
    cond-false (is_ascii_alphabetic b) _ _ no_digit.0
    ∙ cond-false (is_ascii_digit b) _ _ no_digit.1
    ∙ cond-false (eqb b 34) _ _ no_quote.1
    ∙ cond-false (eqb b 96) _ _ no_backquote.1
    ∙ cond-false (eqb b 91) _ _ no_bracket.1

-- what holds of each entry of a table holds of what is among them
pub among_all : (p : List ℕ → Bool) (table : List (List ℕ)) (t : List ℕ) → list_any (λ entry. same_bytes t entry) table ≡ true → list_all p table ≡ true
    → p t ≡ true
among_all p [] t h k = cc
among_all p (entry ∷ table) t h k =
    let b = and_parts (p entry) (list_all p table) k in
    elim (or_cases (same_bytes t entry) (list_any (λ other. same_bytes t other) table) h) [
      | inl e ↦ ap p (same_text t entry (sym e)) ∙ b.0
      | inr e ↦ among_all p table t e b.1
    ]

pub mark_lead : (t : List ℕ) → is_mark t ≡ true → 4 ≤ lead t
mark_lead t h = leb-true 4 (lead t) (among_all (λ u. leb 4 (lead u)) marks t h refl)

reserved_letters : list_all (first_passes is_ascii_alphabetic) reserved_words ≡ true
unfolding reserved_words
reserved_letters = refl

pub reserved_first : (t : List ℕ) → is_reserved t ≡ true → first_passes is_ascii_alphabetic t ≡ true
reserved_first t h = among_all (first_passes is_ascii_alphabetic) reserved_words t h reserved_letters

pub reserved_lead : (t : List ℕ) → is_reserved t ≡ true → lead t ≡ 0
reserved_lead t h = letter_lead t (reserved_first t h)

-- the classes that the first byte of a token has
abbrev pub Leads : TokenKind → ℕ → Type 0
Leads kind.Name n = n ≡ 0
Leads kind.Int n = n ≡ 1
Leads kind.Quoted n = n ≡ 2
Leads kind.Text n = n ≡ 3
Leads kind.ListText n = n ≡ 4
Leads kind.Fixed n = (n ≡ 0) ⊎ (4 ≤ n)

name_lead : (t : List ℕ) → is_namelike t ≡ true → lead t ≡ 0
name_lead [] h = cc
name_lead (b ∷ t) h = letter_lead (b ∷ t) (and_parts (is_ascii_alphabetic b) _ h).0

number_lead : (t : List ℕ) → is_number t ≡ true → lead t ≡ 1
number_lead [] h = cc
number_lead (b ∷ t) h = digit_lead (b ∷ t) (and_parts (is_ascii_digit b) _ h).0

pub leads : (k : TokenKind) (t after : List ℕ) → IsTokenText k t after → Leads k (lead t)
leads kind.Name t after h = name_lead t (and_parts (is_namelike t) (not (is_reserved t)) h).0
leads kind.Int t after h = number_lead t h.0
leads kind.Quoted t after h = ap lead h.1
leads kind.Text t after h = ap lead h.1
leads kind.ListText t after h = ap lead (list_shape h.1.denotes).1
leads kind.Fixed t after h = elim (or_cases (is_mark t) (is_reserved t) h) [ inl m ↦ inr (mark_lead t m) | inr r ↦ inl (reserved_lead t r) ]

pub stands_lead : (bytes : List ℕ) (k : TokenKind) (m : ℕ) → Stands bytes k m → Leads k (lead bytes)
stands_lead bytes k m s = subst (Leads k) (lead-take bytes m s.some) (leads k (take m bytes) (drop m bytes) s.text)
