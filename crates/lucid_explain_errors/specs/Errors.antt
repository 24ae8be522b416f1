-- What is said of a value that is `error` or the end of data, by the certificate of its time.
use Rattle.std.specs.Prelude.{◌≡◌, ℕ, ◌-◌, List, [], ◌∷◌, ◌++◌, length, Option, Some, None, slice_get}
use Rattle.lucid_tree.specs.Tree.{PlainTree}
use Rattle.lucid_equations.specs.declared.table.Table.{Table}
use Rattle.lucid_compile.specs.Settled.{table_of}
use Rattle.lucid_cert_rules.specs.Certificates.{PlainJudgment}
use Rattle.lucid_cert_rules.specs.WhyTexts.{IsTextOf, IsFirstWrongLine}
use Rattle.lucid_cert_rules.specs.declared.rows.Why.{Why}
use Rattle.lucid_explain_source.specs.Accepted.{IsProgram, IsTurnedDown}
use Rattle.lucid_explain_errors.specs.declared.inputs.Input.{Input}
use Rattle.lucid_explain_errors.specs.declared.traced.Traced.{Traced}
use Rattle.lucid_explain_errors.specs.Ways.{Leads, traced_at}
use Rattle.lucid_explain_errors.specs.Texts.{head_text}
use Rattle.lucid_explain_errors.specs.Steps.{Told, named, steps_text}
use Rattle.lucid_explain_errors.specs.Ending.{ending_at}

-- the number of the last judgment
abbrev pub last_number : Why → ℕ
last_number w = length w.judgments - 1

-- the time of a judgment; 0 where there is none
abbrev pub time_in : Option PlainJudgment → ℕ
time_in (Some j) = j.time
time_in None = 0

-- A way as it is told: the value and its time, the steps that have names, and why the last judgment has its value.
abbrev pub way_text : Told → (time : ℕ) → (steps : List ℕ) → (end : ℕ) → List ℕ
way_text t time is end = head_text t.traced time ++ (steps_text t is ++ ending_at t end)

-- The text tells the way from the judgment of a number, by a table.
pub record TellsWay (t : Told) (T : Table) (number : ℕ) (text : List ℕ) : Type 0 where
  pub passed : List ℕ
  pub end : ℕ
  pub way : Leads t.traced t.judgments number passed end
  pub says : text ≡ way_text t (time_in (slice_get t.judgments number)) (named T t.judgments (passed ++ end ∷ [])) end

abbrev pub told_of : (file source : List ℕ) → (inputs : List Input) → PlainTree → Why → Traced → Told
told_of file source inputs e w x = record { file = file; source = source; tree = e; judgments = w.judgments; inputs = inputs; traced = x }

-- What is said of the last judgment of a certificate: its way down to the cause, by the pieces of the source and the table of its tree; or nothing,
-- where its value is neither `error` nor the end of data, or the source is refused.
pub data TellsWhy (file source : List ℕ) (inputs : List Input) (w : Why) (text : List ℕ) : Type 0 where
  no_error : traced_at w.judgments (last_number w) ≡ None → text ≡ [] → TellsWhy file source inputs w text
  refused : IsTurnedDown source → text ≡ [] → TellsWhy file source inputs w text
  told : (x : Traced) (e : PlainTree) (names : List (List ℕ)) → traced_at w.judgments (last_number w) ≡ Some x → IsProgram source e
      → TellsWay (told_of file source inputs e w x) (table_of e names) (last_number w) text → TellsWhy file source inputs w text

-- The same by the certificate's text; nothing, where the bytes are none.
pub data TellsError (file source : List ℕ) (inputs : List Input) (certificate text : List ℕ) : Type 0 where
  no_text : (line : ℕ) → IsFirstWrongLine certificate line → text ≡ [] → TellsError file source inputs certificate text
  by_text : (w : Why) → IsTextOf certificate w → TellsWhy file source inputs w text → TellsError file source inputs certificate text
