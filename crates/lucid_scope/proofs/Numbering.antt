-- The number of an input among the keys is that among the names.
use Rattle.lucid_scope.proofs.Common.{◌≡◌, ℕ, ◌+◌, ◌≤◌, Bool, true, false, cond, List, [], ◌∷◌, length, map, None, nat_lt, Vec, Global, refl, sym, ap, arith, unwrap_or, position_or_len, list_any, same_name, key_bytes, ◌||◌}
use Rattle.std.proofs.Common.{not, Some}

shorter : (b : Bool) (p n : ℕ) → p ≤ n → cond (not b) (1 + p) 0 ≤ n + 1
shorter true p n h = omega arith
shorter false p n h = omega (arith, h)

pub position_le-length : {X : Type 0} (test : X → Bool) (xs : List X) → position_or_len test xs ≤ length xs
position_le-length test [] = omega arith
position_le-length test (x ∷ xs) = omega (arith, shorter (test x) (position_or_len test xs) (length xs) (position_le-length test xs))

pub positions : (x : List ℕ) (keys : List (Vec ℕ Global))
    → position_or_len (λ k. same_name x k.items) keys ≡ position_or_len (λ n. same_name x n) (map key_bytes keys)
positions x [] = refl
positions x (k ∷ keys) = ap (λ p. cond (not (same_name x k.items)) (1 + p) 0) (positions x keys)

found : (b : Bool) (p len : ℕ) → nat_lt p len ≡ b → p ≤ len → unwrap_or (cond b (Some p) None) len ≡ p
found true p len is h = refl
found false p len is h = grind (arith, is, h)

pub number : (p len : ℕ) → p ≤ len → unwrap_or (cond (nat_lt p len) (Some p) None) len ≡ p
number p len h = found (nat_lt p len) p len refl h

-- whether a name is among the keys is whether it is among the names
pub any-keys : (x : List ℕ) (key : Vec ℕ Global) (keys : List (Vec ℕ Global)) → key.items ≡ x
    → list_any (λ n. same_name x n) (map key_bytes keys) ≡ list_any (λ k. same_name key.items k.items) keys
any-keys x key [] e = refl
any-keys x key (k ∷ keys) e = λ i. same_name (sym e i) k.items || any-keys x key keys e i

pub not_there : (b added : Bool) → added ≡ not b → added ≡ true → b ≡ false
not_there true added e h = absurd (grind (arith, e, h))
not_there false added e h = refl
