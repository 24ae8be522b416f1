-- A source has at most one list of tokens and one place at which it is stuck, and not both.
use Rattle.lucid_scan.proofs.Common.{◌≡◌, ℕ, ◌+◌, ◌≤◌, List, [], ◌∷◌, length, drop, take, Bool, true, false, cond, not, eqb, inl, inr, refl, sym, ◌∙◌, ap, subst, arith, length-drop, and_parts, or_cases, not-true, eqb-true, false_from_ne_true, same_text, same_bytes, Items, list, is_namelike, is_reserved, Token, TokenKind, is_mark, IsTokenText, gap, past_gap, token, IsLongest, Tokens, tokens_end, tokens_next, Stuck, stuck_here, stuck_next, le_refl, take-length}
use Rattle.lucid_value.specs.Reading.{Reads}
use Rattle.lucid_scan.specs.declared.token.TokenKind.TheVariants as kind
use Rattle.lucid_scan.proofs.Lead.{lead, leads, reserved_lead}
use Rattle.lucid_scan.proofs.Longest.{mark_kind, mark_or_none}

-- the kind of a token's text: by its first byte, and whether it is a reserved word and a mark
kind_by : ℕ → Bool → Bool → TokenKind
kind_by n reserved mark =
    cond (eqb n 0) (cond reserved kind.Fixed kind.Name)
    (cond (eqb n 1) kind.Int (cond (eqb n 2) kind.Quoted (cond (eqb n 3) kind.Text (cond mark kind.Fixed kind.ListText))))

kind_of : List ℕ → TokenKind
kind_of t = kind_by (lead t) (is_reserved t) (is_mark t)

no_mark_list : (t : List ℕ) (items : Items) → Reads t (list items) → is_mark t ≡ false
no_mark_list t items r = false_from_ne_true (is_mark t) (λ h.
    mark_or_none t (length t) (length t) (subst (λ l. is_mark l ≡ true) (sym (take-length t)) h)
    (record { within = le_refl (length t); items = items; reads = subst (λ l. Reads l (list items)) (sym (take-length t)) r }))

kind_of_mark : (t : List ℕ) → is_mark t ≡ true → kind_of t ≡ kind.Fixed
unfolding kind_of kind_by
kind_of_mark t h = elim (or_cases (eqb (lead t) 5) (same_bytes t (91 ∷ (93 ∷ []))) (mark_kind t h)) [
  | inl e ↦ ap (λ n. kind_by n (is_reserved t) (is_mark t)) (eqb-true (lead t) 5 e) ∙ ap (λ m. cond m kind.Fixed kind.ListText) h
  | inr e ↦ ap kind_of (same_text t (91 ∷ (93 ∷ [])) (sym e))
]

kind_is : (k : TokenKind) (t a : List ℕ) → IsTokenText k t a → kind_of t ≡ k
unfolding kind_of kind_by
kind_is kind.Name t a h =
    ap (λ n. kind_by n (is_reserved t) (is_mark t)) (leads kind.Name t a h)
    ∙ ap (λ r. cond r kind.Fixed kind.Name) (not-true (is_reserved t) (and_parts (is_namelike t) (not (is_reserved t)) h).1)
kind_is kind.Int t a h = ap (λ n. kind_by n (is_reserved t) (is_mark t)) (leads kind.Int t a h)
kind_is kind.Quoted t a h = ap (λ n. kind_by n (is_reserved t) (is_mark t)) (leads kind.Quoted t a h)
kind_is kind.Text t a h = ap (λ n. kind_by n (is_reserved t) (is_mark t)) (leads kind.Text t a h)
kind_is kind.ListText t a h =
    ap (λ n. kind_by n (is_reserved t) (is_mark t)) (leads kind.ListText t a h) ∙ ap (λ m. cond m kind.Fixed kind.ListText) (no_mark_list t h.0 h.1)
kind_is kind.Fixed t a h = elim (or_cases (is_mark t) (is_reserved t) h) [
  | inl m ↦ kind_of_mark t m
  | inr r ↦ ap (λ n. kind_by n (is_reserved t) (is_mark t)) (reserved_lead t r) ∙ ap (λ b. cond b kind.Fixed kind.Name) r
]

one_kind : (j k : TokenKind) (t a : List ℕ) → IsTokenText j t a → IsTokenText k t a → j ≡ k
one_kind j k t a h g = sym (kind_is j t a h) ∙ kind_is k t a g

one_length : (bytes : List ℕ) (j k : TokenKind) (m n : ℕ) → IsLongest bytes j m → IsLongest bytes k n → m ≡ n
one_length bytes j k m n h g = let a = g.longest j m h.stands in let b = h.longest k n g.stands in omega (arith, a, b)

one_longest : (bytes : List ℕ) (j k : TokenKind) (m n : ℕ) → IsLongest bytes j m → IsLongest bytes k n → j ≡ k
one_longest bytes j k m n h g =
    let e = one_length bytes j k m n h g in
    one_kind j k (take n bytes) (drop n bytes) (subst (λ i. IsTokenText j (take i bytes) (drop i bytes)) e h.stands.text) g.stands.text

no_room : (bytes : List ℕ) (k : TokenKind) (n : ℕ) → length bytes ≤ gap bytes → IsLongest (past_gap bytes) k n → ⊥
no_room bytes k n h l = omega (arith, l.stands.within, l.stands.some, length-drop (gap bytes) bytes, h)

pub one_scan : {bytes : List ℕ} {p : ℕ} {ts : List Token} → Tokens bytes p ts → (us : List Token) → Tokens bytes p us → ts ≡ us
one_scan (tokens_end e) _ (tokens_end f) = refl
one_scan {bytes} (tokens_end e) _ (tokens_next k n l r) = absurd (no_room bytes k n e l)
one_scan {bytes} (tokens_next j m l r) _ (tokens_end e) = absurd (no_room bytes j m e l)
one_scan {bytes} {p} (tokens_next {ts = ts} j m l r) _ (tokens_next {ts = us} k n h s) =
    let kinds = one_longest (past_gap bytes) j k m n l h in
    let lengths = one_length (past_gap bytes) j k m n l h in
    let rest = one_scan r us (subst (λ i. Tokens (drop i (past_gap bytes)) ((p + gap bytes) + i) us) (sym lengths) s) in
    ap (λ i. token i (p + gap bytes) ((p + gap bytes) + m) ∷ ts) kinds
    ∙ ap (λ i. token k (p + gap bytes) ((p + gap bytes) + i) ∷ ts) lengths
    ∙ ap (λ l. token k (p + gap bytes) ((p + gap bytes) + n) ∷ l) rest

pub no_scan : {bytes : List ℕ} {p : ℕ} {ts : List Token} → Tokens bytes p ts → (at : ℕ) (rest : List ℕ) → Stuck bytes p at rest → ⊥
no_scan (tokens_end e) at rest (stuck_here h f) = omega (arith, e, h)
no_scan {bytes} (tokens_end e) at rest (stuck_next k n l s) = no_room bytes k n e l
no_scan (tokens_next j m l r) at rest (stuck_here h f) = f j m l.stands
no_scan {bytes} {p} (tokens_next j m l r) at rest (stuck_next k n h s) =
    no_scan r at rest (subst (λ i. Stuck (drop i (past_gap bytes)) ((p + gap bytes) + i) at rest) (sym (one_length (past_gap bytes) j k m n l h)) s)

pub one_stuck : {bytes : List ℕ} {p at : ℕ} {rest : List ℕ} → Stuck bytes p at rest → (place : ℕ) (more : List ℕ) → Stuck bytes p place more
    → (at ≡ place) × (rest ≡ more)
one_stuck (stuck_here h f) _ _ (stuck_here i g) = (refl, refl)
one_stuck (stuck_here h f) place more (stuck_next k n l s) = absurd (f k n l.stands)
one_stuck (stuck_next j m l r) _ _ (stuck_here h f) = absurd (f j m l.stands)
one_stuck {bytes} {p} (stuck_next j m l r) place more (stuck_next k n h s) =
    one_stuck r place more (subst (λ i. Stuck (drop i (past_gap bytes)) ((p + gap bytes) + i) place more) (sym (one_length (past_gap bytes) j k m n l h)) s)
