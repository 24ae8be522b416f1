-- The tests of a search, those that follow each other and are equal together.
use Rattle.std.specs.Prelude.{ℕ, ◌-◌, ◌==◌, Bool, ◌&&◌, List, [], ◌∷◌, ◌++◌, codes, decimal, slice_get, if◌then◌else◌}
use Rattle.std.specs.Option.{option_to_list}
use Rattle.lucid_value.specs.Plain.{PlainValue}
use Rattle.lucid_value.specs.Equality.{same_value}
use Rattle.lucid_cert_rules.specs.Certificates.{PlainJudgment}
use Rattle.lucid_show_outline.specs.Values.{value_shown}

-- tests of one value from one time to another
pub record Run : Type 0 where
  pub value : PlainValue
  pub first : ℕ
  pub last : ℕ

abbrev pub run_of : PlainJudgment → Run
run_of j = record { value = j.value; first = j.time; last = j.time }

-- the test is at the next time, and has the same value
unfoldable pub goes_on : Run → PlainJudgment → Bool
goes_on r j = ((j.time - r.last) == 1) && same_value j.value r.value

abbrev pub longer : Run → PlainJudgment → Run
longer r j = record { value = r.value; first = r.first; last = j.time }

unfoldable pub last_text : (first last : ℕ) → List ℕ
last_text a b = if a == b then [] else codes " to " ++ decimal b

unfoldable pub run_text : Run → List ℕ
run_text r = value_shown r.value ++ (codes " at " ++ (decimal r.first ++ last_text r.first r.last))

-- from a run on
abbrev pub runs_from : Run → List PlainJudgment → List ℕ
runs_from r [] = run_text r
runs_from r (j ∷ js) = if goes_on r j then runs_from (longer r j) js else run_text r ++ (codes ", " ++ runs_from (run_of j) js)

unfoldable pub runs_text : List PlainJudgment → List ℕ
runs_text [] = []
runs_text (j ∷ js) = runs_from (run_of j) js

-- the judgments of these numbers, as far as they are there
abbrev pub judgments_at : List PlainJudgment → List ℕ → List PlainJudgment
judgments_at js [] = []
judgments_at js (u ∷ us) = option_to_list (slice_get js u) ++ judgments_at js us
