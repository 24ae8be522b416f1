-- Counts of faults: an answer is handed on, or another comes after it.
use Rattle.lucid_top.proofs.Common.{◌≡◌, ℕ, Bool, List, Ok, Err, inl, inr, ap, subst, ◌∙◌, IsErrOf, CountsNoFaultUnless, Summary, RunFault, Stop, IsRunStop}
use Rattle.std.specs.Prelude.{Result}
use Rattle.lucid_ports.specs.declared.run.RunFault.TheVariants as fault
use Rattle.lucid_report.specs.declared.stop.Done.{Done}
use Rattle.lucid_report.specs.declared.stop.Stop.TheVariants as stop

err_once : {T E : Type 0} {x y : E} → ◌≡◌ {A = Result T E} (Err x) (Err y) → x ≡ y
err_once e = cc

-- an answer that is no refusal counts no fault
pub none_at_ok : {T E : Type 0} (x : T) (e : E) (f g : ℕ) → CountsNoFaultUnless (IsErrOf {T = T} (Ok x) e) f g → g ≡ f
none_at_ok x e f g (inl failed) = absurd (cc failed)
none_at_ok x e f g (inr same) = same

-- a refusal that is handed on
pub handed_on : {T U E : Type 0} (s q e : E) (f g : ℕ) → q ≡ s → CountsNoFaultUnless (IsErrOf {T = T} (Err s) e) f g
    → CountsNoFaultUnless (IsErrOf {T = U} (Err q) e) f g
handed_on s q e f g same (inl failed) = inl (ap Err (same ∙ err_once failed))
handed_on s q e f g same (inr is) = inr is

-- an answer behind one that counted no fault
pub counts_then : {P : Type 0} (f g h : ℕ) → g ≡ f → CountsNoFaultUnless P g h → CountsNoFaultUnless P f h
counts_then f g h same (inl failed) = inl failed
counts_then f g h same (inr is) = inr (is ∙ same)

-- what stopped a run, as what stops the call
pub run_read : (free : List (List ℕ)) (stats : Bool) (r : RunFault) (s : Stop) (f g : ℕ) → IsRunStop free stats r s
    → CountsNoFaultUnless (IsErrOf {T = Summary} (Err r) fault.ReadFault) f g
    → CountsNoFaultUnless (IsErrOf {T = Done} (Err s) stop.ReadFault) f g
run_read free stats r s f g is (inl failed) = let there : IsRunStop free stats fault.ReadFault s = subst (λ x. IsRunStop free stats x s) (err_once failed) is in
    inl (ap Err there)
run_read free stats r s f g is (inr same) = inr same

pub run_written : (free : List (List ℕ)) (stats : Bool) (r : RunFault) (s : Stop) (f g : ℕ) → IsRunStop free stats r s
    → CountsNoFaultUnless (IsErrOf {T = Summary} (Err r) fault.WriteFault) f g
    → CountsNoFaultUnless (IsErrOf {T = Done} (Err s) stop.WriteFault) f g
run_written free stats r s f g is (inl failed) = let there : IsRunStop free stats fault.WriteFault s =
    subst (λ x. IsRunStop free stats x s) (err_once failed) is in inl (ap Err there)
run_written free stats r s f g is (inr same) = inr same
