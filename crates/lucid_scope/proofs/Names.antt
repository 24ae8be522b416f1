-- Names are the same exactly where their bytes are.
use Rattle.lucid_scope.proofs.Common.{◌≡◌, ℕ, Bool, true, false, List, refl, same_name, bytes_decides, nat_list_eq_equiv}

pub same_one : (x y : List ℕ) → same_name x y ≡ true → x ≡ y
same_one x y h = (bytes_decides x y).0 h

pub same_itself : (x : List ℕ) → same_name x x ≡ true
same_itself x = nat_list_eq_equiv.refl x

differ_not_same : (x y : List ℕ) (b : Bool) → same_name x y ≡ b → (x ≡ y → ⊥) → b ≡ false
differ_not_same x y true is differ = absurd (differ (same_one x y is))
differ_not_same x y false is differ = refl

pub not_same : (x y : List ℕ) → (x ≡ y → ⊥) → same_name x y ≡ false
not_same x y differ = differ_not_same x y (same_name x y) refl differ
