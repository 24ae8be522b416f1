-- Narrow integers keep their results.
use Rattle.lucid_ops.proofs.Common.{◌≡◌, ℕ, zero, suc, ◌^◌, Bool, true, false, List, [], ◌∷◌, refl, arith, nat_lt, nat_eq, ℤ, pos, negsuc, neg_ℤ, unsigned_abs, int_div, int_rem, int_pow, nat_tests, PlainValue, int, fault, Op, Add, Pow, IsEod, IsError, by_rule, row_of, row_of_two, integer, unless_zero, is_eod, is_error, ◌≢◌, ◌+ℤ◌, ◌-ℤ◌, ◌*ℤ◌, list_any}
use Rattle.std.specs.Prelude.{length, if◌then◌else◌}
use Rattle.lucid_value.specs.Plain.{text, list, eod, listed}
use Rattle.lucid_ops.specs.declared.op.Op.TheVariants.{Sub, Mul, Div, Mod, Neg, Abs, Length}
use Rattle.lucid_ops.specs.Algebra.{row_of_one}
use Rattle.lucid_ops.specs.Narrow.{narrow_integer, NarrowIntegersKeepTheirResults}

-- the statement at two values of one row, of which the first is over narrow integers
abbrev Kept : PlainValue → PlainValue → Type 0
Kept narrow wide = narrow ≢ fault → wide ≡ narrow

bounded : (n : ℕ) (v : PlainValue) → Kept (if nat_lt n (2 ^ 63) then v else fault) (if nat_lt n (2 ^ 127) then v else fault)
bounded n v = by (nat_lt n (2 ^ 63)) refl
  where
    by : (t : Bool) → nat_lt n (2 ^ 63) ≡ t → Kept (if t then v else fault) (if nat_lt n (2 ^ 127) then v else fault)
    by true e h = let f : nat_lt n (2 ^ 127) ≡ true = grind (arith, nat_tests) in rw f refl
    by false e h = absurd (h refl)

placed : (z : ℤ) → Kept (narrow_integer z) (integer z)
placed (pos n) = bounded n (int (pos n))
placed (negsuc n) = bounded n (int (negsuc n))

divided : (b : ℤ) (u v : PlainValue) → Kept u v → Kept (unless_zero b u) (unless_zero b v)
divided (pos zero) u v k h = absurd (h refl)
divided (pos (suc n)) u v k h = by (nat_eq (suc n) 0) h
  where
    by : (t : Bool) → Kept (if t then fault else u) (if t then fault else v)
    by true g = absurd (g refl)
    by false g = k g
divided (negsuc n) u v k h = k h

of_one : (op : Op) (v : PlainValue) → Kept (row_of_one narrow_integer op v) (row_of_one integer op v)
of_one Neg (int n) h = placed (neg_ℤ n) h
of_one Abs (int n) h = placed (pos (unsigned_abs n)) h
of_one Length (list vs) h = placed (pos (length (listed vs))) h
of_one Length (text bs) h = placed (pos (length bs)) h
of_one _ v h = refl

of_two : (op : Op) (v w : PlainValue) → Kept (row_of_two narrow_integer op v w) (row_of_two integer op v w)
of_two Add (int a) (int b) h = placed (a +ℤ b) h
of_two Sub (int a) (int b) h = placed (a -ℤ b) h
of_two Mul (int a) (int b) h = placed (a *ℤ b) h
of_two Div (int a) (int b) h = divided b _ _ (placed (int_div a b)) h
of_two Mod (int a) (int b) h = divided b _ _ (placed (int_rem a b)) h
of_two Pow (int a) (int (pos n)) h = placed (int_pow a n) h
of_two _ v w h = refl

of_row : (op : Op) (vs : List PlainValue) → Kept (row_of narrow_integer op vs) (row_of integer op vs)
of_row op (u ∷ []) h = of_one op u h
of_row op (u ∷ v ∷ []) h = of_two op u v h
of_row op _ h = refl

ruled : (vs : List PlainValue) (u v : PlainValue) → Kept u v → Kept (by_rule vs u) (by_rule vs v)
ruled vs u v k = by (list_any is_eod vs) (list_any is_error vs)
  where
    by : (s t : Bool) → Kept (if s then eod else (if t then fault else u)) (if s then eod else (if t then fault else v))
    by true t h = refl
    by false true h = refl
    by false false h = k h

pub narrow_results : NarrowIntegersKeepTheirResults
narrow_results IsEod vs h = refl
narrow_results IsError vs h = refl
narrow_results op vs h = ruled vs _ _ (of_row op vs) h
