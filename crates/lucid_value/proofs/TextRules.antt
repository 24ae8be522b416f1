-- Parts of a string and two strings in a row are strings.
use Rattle.lucid_value.proofs.Common.{◌≡◌, ℕ, zero, suc, List, [], ◌∷◌, ◌++◌, Bool, true, IsTrue, take, drop, refl, and_parts, both_true, ◌↔◌, nat_lt, if◌then◌else◌, arith, false, ltb-true, ltb-false, text, fault, is_text, is_text_byte, slice_range, length-append}
use Rattle.std.specs.Prelude.{◌+◌, ◌<◌, length}
use Rattle.lucid_value.specs.Texts.{limited_text}

all_taken : (n : ℕ) (bs : List ℕ) → is_text bs ≡ true → is_text (take n bs) ≡ true
all_taken zero bs h = refl
all_taken (suc n) [] h = refl
all_taken (suc n) (b ∷ bs) h = let p = and_parts (is_text_byte b) (is_text bs) h in both_true p.0 (all_taken n bs p.1)

all_dropped : (n : ℕ) (bs : List ℕ) → is_text bs ≡ true → is_text (drop n bs) ≡ true
all_dropped zero bs h = h
all_dropped (suc n) [] h = refl
all_dropped (suc n) (b ∷ bs) h = let p = and_parts (is_text_byte b) (is_text bs) h in all_dropped n bs p.1

pub text_cut : (bs : List ℕ) (i j : ℕ) → IsTrue (is_text bs) → IsTrue (is_text (slice_range bs i j))
text_cut bs i j h = all_taken _ (drop i bs) (all_dropped i bs h)

pub text_joined : (bs cs : List ℕ) → IsTrue (is_text bs) → IsTrue (is_text cs) → IsTrue (is_text (bs ++ cs))
text_joined [] cs h k = k
text_joined (b ∷ bs) cs h k = let p = and_parts (is_text_byte b) (is_text bs) h in both_true p.0 (text_joined bs cs p.1 k)

-- two strings in a row are `error` exactly where they are too heavy
pub over_weight : (bs cs : List ℕ) → (limited_text (bs ++ cs) ≡ fault) ↔ (65536 < length bs + length cs + 1)
over_weight bs cs = at (nat_lt (length (bs ++ cs)) 65536) refl
  where
    at : (m : Bool) → nat_lt (length (bs ++ cs)) 65536 ≡ m → ((if m then text (bs ++ cs) else fault) ≡ fault) ↔ (65536 < length bs + length cs + 1)
    at true e = (λ k. cc, λ k. absurd (omega (arith, ltb-true _ _ e, length-append bs cs)))
    at false e = (λ k. omega (arith, ltb-false _ _ e, length-append bs cs), λ k. refl)
