-- Counts of faults that rise, and calls that come late.
use Rattle.lucid_ports.proofs.Common.{◌≡◌, ℕ, ◌≤◌, ◌-◌, inl, inr, arith, ◌^◌, ◌∙◌, Ok, Result, cases_lt}
use Rattle.std.specs.Prelude.{IsErrOf}
use Rattle.lucid_ports.specs.Faults.{CountsNoFaultUnless, EndsAtItsFault, Rises}

-- a count that rises later rises
pub rises_from : (f g h : ℕ) → f ≤ g → g ≤ h → Rises g h → Rises f h
rises_from f g h i j rises low = elim (cases_lt g (2 ^ 64 - 1)) [ inl below ↦ omega (arith, rises below) | inr past ↦ omega arith ]

-- no fault was counted by a call that went well
pub none_at_ok : {T E : Type 0} (result : Result T E) (x : T) (e : E) (f g : ℕ) → result ≡ Ok x → CountsNoFaultUnless (IsErrOf result e) f g → g ≡ f
none_at_ok result x e f g was (inl failed) = absurd (cc (was, failed))
none_at_ok result x e f g was (inr same) = same
