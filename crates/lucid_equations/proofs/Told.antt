-- What a plan goes on with by a value is the plan of the step that is taken by what the value tells.
use Rattle.std.proofs.Common.{◌≡◌, ℕ, Bool, true, false, nat_le, if◌then◌else◌, refl}
use Rattle.std.specs.Prelude.{pos}
use Rattle.lucid_value.specs.Plain.{PlainValue, int, truth, eod, fault}
use Rattle.lucid_tree.specs.declared.form.Form.{Form}
use Rattle.lucid_tree.specs.Rows.{Plan, gives, last, look, by_test, by_place, only_truth}
use Rattle.lucid_equations.specs.declared.answer.Answer.{Answer}
use Rattle.lucid_equations.specs.declared.answer.Answer.TheVariants.{Holds, At, Ended, Other}
use Rattle.lucid_equations.specs.declared.step.Place.{Place}
use Rattle.lucid_equations.specs.declared.step.Given.TheVariants.{End, Fault}
use Rattle.lucid_equations.specs.declared.step.Step.{Step}
use Rattle.lucid_equations.specs.declared.step.Step.TheVariants as step
use Rattle.lucid_equations.specs.Steps.{answer_of, judged, by_truth, to_point, given_value, step_plan}

-- one look, and on by equal plans
pub look_alike : (i t s l : ℕ) (k h : PlainValue → Plan) → ((v : PlainValue) → k v ≡ h v) → look i t s l k ≡ look i t s l h
look_alike i t s l k h e = λ j. look i t s l (λ v. e v j)

module _ (f : Form) (p : Place) where
  pub test_told : (v : PlainValue) (on off : Step) → by_test v (step_plan f p on) (step_plan f p off) ≡ step_plan f p (by_truth (answer_of v) on off)
  test_told (truth true) on off = refl
  test_told (truth false) on off = refl
  test_told (int (pos n)) on off = far (nat_le n last)
    where
      far : (b : Bool) → gives fault ≡ step_plan f p (by_truth (if b then At n else Other) on off)
      far true = refl
      far false = refl
  test_told v on off = refl

  pub place_told : (v : PlainValue) (k : ℕ → Step) → by_place v (λ n. step_plan f p (k n)) ≡ step_plan f p (to_point (answer_of v) k)
  place_told (int (pos n)) k = far (nat_le n last)
    where
      far : (b : Bool) → (if b then step_plan f p (k n) else gives fault) ≡ step_plan f p (to_point (if b then At n else Other) k)
      far true = refl
      far false = refl
  place_told v k = refl

pub truth_told : (v : PlainValue) → only_truth v ≡ given_value (judged (answer_of v))
truth_told (int (pos n)) = far (nat_le n last)
  where
    far : (b : Bool) → fault ≡ given_value (judged (if b then At n else Other))
    far true = refl
    far false = refl
truth_told v = refl

-- A step by what a value tells is one of four, by the value.
pub by_its_truth : (P : Step → Type 0) (v : PlainValue) (on off : Step) → (v ≡ truth true → P on) → (v ≡ truth false → P off) → P (step.Give End)
    → P (step.Give Fault) → P (by_truth (answer_of v) on off)
by_its_truth P (truth true) on off holds fails end other = holds refl
by_its_truth P (truth false) on off holds fails end other = fails refl
by_its_truth P eod on off holds fails end other = end
by_its_truth P (int (pos n)) on off holds fails end other = far (nat_le n last)
  where
    far : (b : Bool) → P (by_truth (if b then At n else Other) on off)
    far true = other
    far false = other
by_its_truth P v on off holds fails end other = other

-- The same by an answer.
pub by_its_answer : (P : Step → Type 0) (a : Answer) (on off : Step) → P on → P off → P (step.Give End) → P (step.Give Fault) → P (by_truth a on off)
by_its_answer P (Holds true) on off holds fails end other = holds
by_its_answer P (Holds false) on off holds fails end other = fails
by_its_answer P Ended on off holds fails end other = end
by_its_answer P a on off holds fails end other = other

pub to_its_point : (P : Step → Type 0) (a : Answer) (k : ℕ → Step) → ((n : ℕ) → a ≡ At n → P (k n)) → P (step.Give End) → P (step.Give Fault)
    → P (to_point a k)
to_its_point P (At n) k there end other = there n refl
to_its_point P Ended k there end other = end
to_its_point P a k there end other = other
