-- Marks that are all true at the start of a run.
use Rattle.lucid_session.proofs.Common.{◌≡◌, ℕ, zero, suc, ◌≤◌, Bool, true, length, sym, take, arith, slice_get, same_Some, none-some, replicate, length-take-le, length-replicate}
use Rattle.std.proofs.Common.{[], ◌∷◌, Some}

-- in a front of them,
pub all_true : (n k j : ℕ) (mark : Bool) → slice_get (take n (replicate k true)) j ≡ Some mark → mark ≡ true
all_true zero zero j mark e = absurd (none-some _ e)
all_true zero (suc k) j mark e = absurd (none-some _ e)
all_true (suc n) zero j mark e = absurd (none-some _ e)
all_true (suc n) (suc k) zero mark e = sym (same_Some _ _ e)
all_true (suc n) (suc k) (suc j) mark e = all_true n k j mark e

-- of which there are as many as it has,
pub front_size : (n k : ℕ) → n ≤ k → length (take n (replicate k true)) ≡ n
front_size n k le = length-take-le n (replicate k true) (omega (arith, le, length-replicate k true))

-- and of one
pub one_true : (j : ℕ) (mark : Bool) → slice_get (true ∷ []) j ≡ Some mark → mark ≡ true
one_true zero mark e = sym (same_Some _ _ e)
one_true (suc j) mark e = absurd (none-some _ e)
