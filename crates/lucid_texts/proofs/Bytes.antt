-- Which bytes words and lines don't have: no word of letters and digits has a blank (32), and no line of words without line ends (10) has one.
-- Where bytes are cut at a byte.
use Rattle.lucid_texts.proofs.Common.{◌≡◌, ℕ, ◌<◌, ◌≤◌, ◌^◌, Bool, true, false, List, [], ◌∷◌, ◌++◌, refl, sym, ap, ◌∙◌, arith, decimal, is_ascii_alphanumeric, AllByRecursion, list_all, join_with_byte, and_parts, ne_eqb, decimal_is_IsNumeral, HasNone, Lacks, map, IsInRange, AllDigits, eqb-false, le-leb, All-from_recursion, digit_from_value}
use Rattle.std.proofs.lemmas.Bool.{and_from}
use Rattle.lucid_texts.specs.Words.{AreBelow}

pub has_none : (c : ℕ) (bs : List ℕ) → Lacks c bs → HasNone c bs
has_none c bs h = All-from_recursion _ bs h

pub lacks-append : (c : ℕ) (xs ys : List ℕ) → Lacks c xs → Lacks c ys → Lacks c (xs ++ ys)
lacks-append c [] ys h k = k
lacks-append c (x ∷ xs) ys h k = (h.0, lacks-append c xs ys h.1 k)

-- a byte that fails a test, where all pass it
pub lacks_by : (c : ℕ) (p : ℕ → Bool) → p c ≡ false → (bs : List ℕ) → list_all p bs ≡ true → Lacks c bs
lacks_by c p f [] h = tt
lacks_by c p f (b ∷ bs) h =
    let k = and_parts (p b) (list_all p bs) h in
    (ne_eqb b c (λ e. let q : true ≡ false = sym k.0 ∙ (ap p e ∙ f) in cc), lacks_by c p f bs k.1)

-- digits have neither a blank nor a line end
pub digits_lack : (c : ℕ) → c < 48 → (ds : List ℕ) → AllDigits 10 ds → Lacks c ds
digits_lack c l [] h = tt
digits_lack c l (d ∷ ds) h = (ne_eqb d c (λ e. omega (arith, digit_from_value d h.0)), digits_lack c l ds h.1)

-- words without line ends, joined by blanks, have none
pub join_lacks : (ws : List (List ℕ)) → AllByRecursion (Lacks 10) ws → Lacks 10 (join_with_byte 32 ws)
join_lacks [] h = tt
join_lacks (w ∷ []) h = h.0
join_lacks (w ∷ v ∷ ws) h = lacks-append 10 w (32 ∷ join_with_byte 32 (v ∷ ws)) h.0 (refl, join_lacks (v ∷ ws) h.1)

-- letters and digits alone
abbrev pub IsSolid : List ℕ → Type 0
IsSolid w = list_all is_ascii_alphanumeric w ≡ true

pub solid_lacks : (c : ℕ) → is_ascii_alphanumeric c ≡ false → (w : List ℕ) → IsSolid w → Lacks c w
solid_lacks c f w h = lacks_by c is_ascii_alphanumeric f w h

pub all_solid_lack : (c : ℕ) → is_ascii_alphanumeric c ≡ false → (ws : List (List ℕ)) → AllByRecursion IsSolid ws → AllByRecursion (Lacks c) ws
all_solid_lack c f [] h = tt
all_solid_lack c f (w ∷ ws) h = (solid_lacks c f w h.0, all_solid_lack c f ws h.1)

digit_solid : (d : ℕ) → IsInRange 48 57 d → is_ascii_alphanumeric d ≡ true
digit_solid d r = rw (le-leb 48 d r.0, le-leb d 57 r.1) refl

digits_solid : (ds : List ℕ) → AllDigits 10 ds → IsSolid ds
digits_solid [] h = refl
digits_solid (d ∷ ds) h =
    let r = digit_from_value d h.0 in
    and_from (is_ascii_alphanumeric d) (list_all is_ascii_alphanumeric ds) (digit_solid d r) (digits_solid ds h.1)

-- the digits of a number are such a word
pub decimal_solid : (n : ℕ) → n < 2 ^ 64 → IsSolid (decimal n)
decimal_solid n h = digits_solid (decimal n) (decimal_is_IsNumeral n h).0.1

pub decimals_solid : (bound : ℕ) → bound ≤ 2 ^ 64 → (ns : List ℕ) → AreBelow bound ns → AllByRecursion IsSolid (map decimal ns)
decimals_solid b l [] h = tt
decimals_solid b l (n ∷ ns) h = (decimal_solid n (omega (arith, l, h.0)), decimals_solid b l ns h.1)

-- where bytes are cut at a byte that the front lacks, they are cut in one way
pub one_cut : (c : ℕ) (v w x y : List ℕ) → Lacks c v → Lacks c w → v ++ c ∷ x ≡ w ++ c ∷ y → (v ≡ w) × (x ≡ y)
one_cut c [] [] x y h k e = (refl, cc)
one_cut c [] (b ∷ w) x y h k e =
    let q : c ≡ b = cc in absurd (eqb-false b c k.0 (sym q))
one_cut c (a ∷ v) [] x y h k e =
    let q : a ≡ c = cc in absurd (eqb-false a c h.0 q)
one_cut c (a ∷ v) (b ∷ w) x y h k e =
    let q : a ≡ b = cc in
    let r = one_cut c v w x y h.1 k.1 (cc) in (cc (q, r.0), r.1)

-- bytes that lack a byte don't have it
pub lacks_middle : (c : ℕ) (v x : List ℕ) → Lacks c (v ++ c ∷ x) → ⊥
lacks_middle c [] x h = eqb-false c c h.0 refl
lacks_middle c (a ∷ v) x h = lacks_middle c v x h.1
