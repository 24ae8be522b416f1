-- The algebra over integers of 64 bits, and how it stands to that over integers of 128.
use Rattle.std.specs.Prelude.{◌≡◌, ◌≢◌, ◌^◌, Bool, ℤ, pos, negsuc, List, nat_lt, if◌then◌else◌}
use Rattle.lucid_value.specs.Plain.{PlainValue, int, fault}
use Rattle.lucid_ops.specs.declared.op.Op.{Op}
use Rattle.lucid_ops.specs.Algebra.{algebra, algebra_in}

-- a narrow integer: one of 64 bits, from -2 ^ 63 to 2 ^ 63 - 1
abbrev pub is_narrow : ℤ → Bool
is_narrow (pos n) = nat_lt n (2 ^ 63)
is_narrow (negsuc n) = nat_lt n (2 ^ 63)

-- the number as a value, or `error` where it is no narrow integer
abbrev pub narrow_integer : ℤ → PlainValue
narrow_integer z = if is_narrow z then int z else fault

-- what an operator gives where only narrow integers have a place
abbrev pub narrow_algebra : Op → List PlainValue → PlainValue
narrow_algebra op vs = algebra_in narrow_integer op vs

-- Narrow integers keep their results: where the narrow algebra gives no error, the algebra of the language gives the same.
abbrev pub NarrowIntegersKeepTheirResults : Type 0
NarrowIntegersKeepTheirResults = (op : Op) (vs : List PlainValue) → narrow_algebra op vs ≢ fault → algebra op vs ≡ narrow_algebra op vs
