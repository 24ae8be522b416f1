-- The policy by age as it is seen, where its turns are counted down.
use Rattle.lucid_retire.proofs.Common.{◌≡◌, ℕ, ◌+◌, ◌-◌, ◌≤◌, ◌<◌, Bool, true, false, ap, ◌∙◌, sym, subst, arith, nat_tests, if◌then◌else◌, ◌==◌, Aging}
use Rattle.lucid_retire.specs.Aging.{after_turn, is_sweeping}

-- the policy after so many turns
abbrev pub counted : (every limit since : ℕ) → Aging
counted every limit since = record { every = every; limit = limit; since = since }

none_since : (n : ℕ) → n - n ≡ 0
none_since n = omega arith

-- where all turns are left, none was taken
pub made_at : (every limit : ℕ) → counted every limit (every - every) ≡ counted every limit 0
made_at every limit = ap (counted every limit) (none_since every)

-- the last turn before a sweep has one left
sweeps_at : (every left : ℕ) → left ≤ every → left ≡ 1 → (every - left + 1 == every) ≡ true
sweeps_at every left le one = let e : every - left + 1 ≡ every = omega (arith, le, one) in grind (arith, nat_tests, e)

waits_at : (every left : ℕ) → left ≤ every → (left ≡ 1 → ⊥) → 0 < left → (every - left + 1 == every) ≡ false
waits_at every left le other some = let e : every - left + 1 < every = omega (arith, some, le, other) in grind (arith, nat_tests, e)

after : (every limit since : ℕ) (t : Bool) (next : ℕ) → is_sweeping (counted every limit since) ≡ t → next ≡ (if t then 0 else since + 1)
    → counted every limit next ≡ after_turn (counted every limit since)
after every limit since t next is same = ap (counted every limit) (same ∙ ap (λ b. if b then 0 else since + 1) (sym is))

module _ (every limit left : ℕ) (old : Aging) (view : counted every limit (every - left) ≡ old) (le : left ≤ every) where
  -- the turn that sweeps
  module _ (one : left ≡ 1) where
    pub sweep_counted : counted every limit (every - every) ≡ after_turn old
    sweep_counted = subst (λ a. counted every limit (every - every) ≡ after_turn a) view
        (after every limit (every - left) true (every - every) (sweeps_at every left le one) (none_since every))

    pub sweep_told : true ≡ is_sweeping old
    sweep_told = sym (subst (λ a. is_sweeping a ≡ true) view (sweeps_at every left le one))

  -- any other
  module _ (other : left ≡ 1 → ⊥) (some : 0 < left) where
    pub turn_counted : counted every limit (every - (left - 1)) ≡ after_turn old
    turn_counted = subst (λ a. counted every limit (every - (left - 1)) ≡ after_turn a) view
        (after every limit (every - left) false (every - (left - 1)) (waits_at every left le other some) (omega (arith, some, le)))

    pub turn_told : false ≡ is_sweeping old
    turn_told = sym (subst (λ a. is_sweeping a ≡ false) view (waits_at every left le other some))
