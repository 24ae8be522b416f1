-- Definitions that were found, in order.
use Rattle.lucid_cycles.proofs.Common.{◌≡◌, ℕ, zero, suc, ◌<◌, ◌≤◌, List, [], ◌∷◌, length, get_or, refl, sym, ap, arith, Definition, definition_text, text_at}

pub text-in : (ds : List Definition) (k : ℕ) (d : Definition) → k < length ds → d ≡ get_or ds k d → text_at ds k ≡ definition_text d
text-in [] k d h e = absurd (omega (arith, h))
text-in (x ∷ xs) zero d h e = ap definition_text (sym e)
text-in (x ∷ xs) (suc k) d h e = text-in xs k d (omega (arith, h)) e

pub text-out : (ds : List Definition) (k : ℕ) → length ds ≤ k → text_at ds k ≡ []
text-out [] k h = refl
text-out (x ∷ xs) zero h = absurd (omega (arith, h))
text-out (x ∷ xs) (suc k) h = text-out xs k (omega (arith, h))
