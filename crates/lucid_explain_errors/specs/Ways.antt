-- The way of a traced value: from judgment to judgment of a certificate, each computed from the next one, down to one that was computed from none that
-- has the value.
use Rattle.std.specs.Prelude.{◌≡◌, ℕ, nat_lt, Bool, false, ◌&&◌, List, [], ◌∷◌, Option, Some, None, find, slice_get}
use Rattle.lucid_value.specs.Plain.{PlainValue, fault}
use Rattle.lucid_cert_rules.specs.Certificates.{PlainJudgment}
use Rattle.lucid_cert_rules.specs.Needs.{uses_at}
use Rattle.lucid_explain_errors.specs.declared.traced.Traced.{Traced}
use Rattle.lucid_explain_errors.specs.Traced.{is_traced, traced_of}

-- the judgment is there, and its value is what is traced
abbrev pub is_traced_in : Traced → Option PlainJudgment → Bool
is_traced_in x (Some j) = is_traced x j.value
is_traced_in x None = false

-- From the judgment of a number the way may go on to that of another: an earlier one, which has the value.
abbrev pub may_step : Traced → List PlainJudgment → (number other : ℕ) → Bool
may_step x js i u = nat_lt u i && is_traced_in x (slice_get js u)

-- the step from the judgment of a number: to the first such one of those that it uses
abbrev pub step_from : Traced → List PlainJudgment → (number : ℕ) → Option ℕ
step_from x js i = find (may_step x js i) (uses_at js i)

-- The way from the judgment of a number: it passes these, each with a step to the next one, and ends with one that has no step.
pub data Leads (x : Traced) (js : List PlainJudgment) : (from : ℕ) → (passed : List ℕ) → (end : ℕ) → Type 0 where
  ends : {i : ℕ} → step_from x js i ≡ None → Leads x js i [] i
  goes_on : {i u end : ℕ} {passed : List ℕ} → step_from x js i ≡ Some u → Leads x js u passed end → Leads x js i (i ∷ passed) end

-- the value of the judgment of a number; `error` where there is none
abbrev pub value_in : Option PlainJudgment → PlainValue
value_in (Some j) = j.value
value_in None = fault

abbrev pub value_at : List PlainJudgment → (number : ℕ) → PlainValue
value_at js i = value_in (slice_get js i)

-- what is traced from the judgment of a number, if anything
abbrev pub traced_in : Option PlainJudgment → Option Traced
traced_in (Some j) = traced_of j.value
traced_in None = None

abbrev pub traced_at : List PlainJudgment → (number : ℕ) → Option Traced
traced_at js i = traced_in (slice_get js i)
