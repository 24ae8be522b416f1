-- The steps of each form are those of its plan.
use Rattle.std.proofs.Common.{◌≡◌, ℕ, zero, suc, ◌-◌, Bool, true, false, refl, sym, ap, ◌∙◌, arith, nat_lt, nat_le, if◌then◌else◌}
use Rattle.std.proofs.lemmas.Bool.{ltb-true, ltb-false, leb-true, leb-false}
use Rattle.lucid_value.specs.Plain.{PlainValue, truth, fault}
use Rattle.lucid_tree.specs.declared.form.Form.{Form}
use Rattle.lucid_tree.specs.declared.form.Form.TheVariants as forms
use Rattle.lucid_tree.specs.Tree.{stream}
use Rattle.lucid_tree.specs.Rows.{Plan, gives, nothing, look, gives_part, by_test, by_place, only_truth, at_zero, find_true, count_true, last}
use Rattle.lucid_tree.specs.Rests.{rest_at}
use Rattle.lucid_equations.specs.declared.step.Place.{Place}
use Rattle.lucid_equations.specs.declared.step.Given.TheVariants.{Truth, Fault}
use Rattle.lucid_equations.specs.declared.step.Step.{Step}
use Rattle.lucid_equations.specs.declared.step.Step.TheVariants as step
use Rattle.lucid_equations.specs.declared.step.Start.TheVariants as start
use Rattle.lucid_equations.specs.Steps.{answer_of, part_at, by_truth, from_zero, below_last, searched, counted, start_of, found, step_after, step_plan, start_plan, StepsAreOfPlans}
use Rattle.lucid_equations.proofs.Told.{look_alike, test_told, place_told}

-- so many are left, or none
some_left : (a b : ℕ) → nat_lt a b ≡ true → b - a ≡ suc (b - suc a)
some_left a b e = omega (arith, ltb-true a b e)

none_left : (a b : ℕ) → nat_lt a b ≡ false → b - a ≡ 0
none_left a b e = omega (arith, ltb-false a b e)

none_wanted : (a b : ℕ) → nat_le a b ≡ true → a - b ≡ 0
none_wanted a b e = omega (arith, leb-true a b e)

some_wanted : (a b : ℕ) → nat_le a b ≡ false → a - b ≡ suc (a - suc b)
some_wanted a b e = omega (arith, leb-false a b e)

module _ (p : Place) where
  -- what is left of a form's plan
  abbrev left : Form → Plan
  left f = rest_at (stream f) p.limit p.reached p.count p.time p.space

  -- a form that looks at the point
  looks : (f : Form) (i : ℕ) (k : PlainValue → Plan) → ((v : PlainValue) → k v ≡ step_plan f p (step_after f p (answer_of v)))
      → look i p.time p.space 0 k ≡ look i p.time p.space 0 (λ v. step_plan f p (step_after f p (answer_of v)))
  looks f i k e = look_alike i p.time p.space 0 k (λ v. step_plan f p (step_after f p (answer_of v))) e

  if_is : left forms.If ≡ start_plan forms.If p (start_of forms.If p)
  if_is =
      looks forms.If 0 (λ v. by_test v (gives_part 1 p.time p.space) (gives_part 2 p.time p.space))
      (λ v. test_told forms.If p v (step.Part (part_at 1 p.time p.space)) (step.Part (part_at 2 p.time p.space)))

  and_is : left forms.And ≡ start_plan forms.And p (start_of forms.And p)
  and_is =
      looks forms.And 0 (λ v. by_test v (look 1 p.time p.space 0 (λ w. gives (only_truth w))) (gives (truth false)))
      (λ v. test_told forms.And p v (step.Judge (part_at 1 p.time p.space)) (step.Give (Truth false)))

  or_is : left forms.Or ≡ start_plan forms.Or p (start_of forms.Or p)
  or_is =
      looks forms.Or 0 (λ v. by_test v (gives (truth true)) (look 1 p.time p.space 0 (λ w. gives (only_truth w))))
      (λ v. test_told forms.Or p v (step.Give (Truth true)) (step.Judge (part_at 1 p.time p.space)))

  attime_is : left forms.Attime ≡ start_plan forms.Attime p (start_of forms.Attime p)
  attime_is = looks forms.Attime 1 (λ v. by_place v (λ u. gives_part 0 u p.space)) (λ v. place_told forms.Attime p v (λ u. step.Part (part_at 0 u p.space)))

  atspace_is : left forms.Atspace ≡ start_plan forms.Atspace p (start_of forms.Atspace p)
  atspace_is = looks forms.Atspace 1 (λ v. by_place v (λ r. gives_part 0 p.time r)) (λ v. place_told forms.Atspace p v (λ r. step.Part (part_at 0 p.time r)))

  -- what only moves the point
  below_is : (f : Form) (n : ℕ) (x : Step) → (if nat_lt n last then step_plan f p x else gives fault) ≡ step_plan f p (below_last n x)
  below_is f n x = go (nat_lt n last)
    where
      go : (b : Bool) → (if b then step_plan f p x else gives fault) ≡ step_plan f p (if b then x else step.Give Fault)
      go true = refl
      go false = refl

  zero_is : (f : Form) (n : ℕ) (x : Step) (k : ℕ → Step) → at_zero n (step_plan f p x) (λ u. step_plan f p (k u)) ≡ step_plan f p (from_zero n x k)
  zero_is f zero x k = refl
  zero_is f (suc n) x k = refl

  -- what is left of a search at the next time
  abbrev left_on : (wanted : ℕ) → Plan
  left_on w = find_true (p.limit - suc p.reached) (suc p.reached) w p.space

  -- a search by its step at a true value
  search_is : (f : Form) (wanted : ℕ) (on : Step) → at_zero wanted (gives_part 0 p.reached p.space) left_on ≡ step_plan f p on
      → left_on wanted ≡ step_plan f p (step.On false) → (b : Bool) → nat_lt p.reached p.limit ≡ b
      → find_true (p.limit - p.reached) p.reached wanted p.space
      ≡ (if b then look 1 p.reached p.space (suc p.reached) (λ v. step_plan f p (by_truth (answer_of v) on (step.On false))) else nothing)
  search_is f w on holds fails true e =
      ap (λ (q : ℕ). find_true q p.reached w p.space) (some_left p.reached p.limit e)
      ∙ look_alike 1 p.reached p.space (suc p.reached) (λ v. by_test v (at_zero w (gives_part 0 p.reached p.space) left_on) (left_on w))
      (λ v. step_plan f p (by_truth (answer_of v) on (step.On false))) told
    where
      told : (v : PlainValue) → by_test v (at_zero w (gives_part 0 p.reached p.space) left_on) (left_on w)
          ≡ step_plan f p (by_truth (answer_of v) on (step.On false))
      told v =
          let both : by_test v (at_zero w (gives_part 0 p.reached p.space) left_on) (left_on w) ≡ by_test v (step_plan f p on) (step_plan f p (step.On false)) =
          λ i. by_test v (holds i) (fails i) in both ∙ test_told f p v on (step.On false)
  search_is f w on holds fails false e = ap (λ (q : ℕ). find_true q p.reached w p.space) (none_left p.reached p.limit e)

  start_is : (f : Form) (b : Bool) → (if b then start_plan f p (start.Look (part_at 1 p.reached p.space)) else nothing)
      ≡ start_plan f p (if b then start.Look (part_at 1 p.reached p.space) else start.Step step.Nothing)
  start_is f true = refl
  start_is f false = refl

  pub found_is : at_zero (p.time - p.count) (gives_part 0 p.reached p.space) left_on ≡ step_plan forms.Whenever p (found p)
  found_is = go (nat_le p.time p.count) refl
    where
      go : (b : Bool) → nat_le p.time p.count ≡ b → at_zero (p.time - p.count) (gives_part 0 p.reached p.space) left_on
          ≡ step_plan forms.Whenever p (if b then step.Part (part_at 0 p.reached p.space) else step.On true)
      go true e = ap (λ (q : ℕ). at_zero q (gives_part 0 p.reached p.space) left_on) (none_wanted p.time p.count e)
      go false e = ap (λ (q : ℕ). at_zero q (gives_part 0 p.reached p.space) left_on) (some_wanted p.time p.count e)

  whenever_is : left forms.Whenever ≡ start_plan forms.Whenever p (searched p)
  whenever_is =
      search_is forms.Whenever (p.time - p.count) (found p) found_is refl (nat_lt p.reached p.limit) refl
      ∙ start_is forms.Whenever (nat_lt p.reached p.limit)

  asa_is : left forms.Asa ≡ start_plan forms.Asa p (searched p)
  asa_is =
      let none : 0 - p.count ≡ 0 = omega arith in
      search_is forms.Asa (0 - p.count) (step.Part (part_at 0 p.reached p.space)) (ap (λ (q : ℕ). at_zero q (gives_part 0 p.reached p.space) left_on) none) refl
      (nat_lt p.reached p.limit) refl
      ∙ start_is forms.Asa (nat_lt p.reached p.limit)

  -- what is left of a count at the next time
  abbrev count_on : (seen : ℕ) → Plan
  count_on n = count_true (p.time - suc p.reached) (suc p.reached) n p.space p.time

  upon_is : left forms.Upon ≡ start_plan forms.Upon p (counted p)
  upon_is = go (nat_le p.time p.limit) refl
    where
      next : nat_le p.time p.limit ≡ true → (n : ℕ) → count_on n ≡ (if nat_le p.time p.limit then count_on n else nothing)
      next within n = sym (ap (λ (b : Bool). if b then count_on n else nothing) within)

      told : nat_le p.time p.limit ≡ true → (v : PlainValue) → by_test v (count_on (suc p.count)) (count_on p.count)
          ≡ step_plan forms.Upon p (step_after forms.Upon p (answer_of v))
      told within v =
          let both : by_test v (count_on (suc p.count)) (count_on p.count)
          ≡ by_test v (step_plan forms.Upon p (step.On true)) (step_plan forms.Upon p (step.On false)) =
          λ i. by_test v (next within (suc p.count) i) (next within p.count i) in both ∙ test_told forms.Upon p v (step.On true) (step.On false)

      count : nat_le p.time p.limit ≡ true → (b : Bool) → nat_lt p.reached p.time ≡ b
          → count_true (p.time - p.reached) p.reached p.count p.space p.time
          ≡ start_plan forms.Upon p (if b then start.Look (part_at 1 p.reached p.space) else start.Step (step.Part (part_at 0 p.count p.space)))
      count within true e =
          ap (λ (q : ℕ). count_true q p.reached p.count p.space p.time) (some_left p.reached p.time e)
          ∙ look_alike 1 p.reached p.space p.time (λ v. by_test v (count_on (suc p.count)) (count_on p.count))
          (λ v. step_plan forms.Upon p (step_after forms.Upon p (answer_of v))) (told within)
      count within false e = ap (λ (q : ℕ). count_true q p.reached p.count p.space p.time) (none_left p.reached p.time e)

      go : (b : Bool) → nat_le p.time p.limit ≡ b → (if b then count_true (p.time - p.reached) p.reached p.count p.space p.time else nothing)
          ≡ start_plan forms.Upon p (if b
          then (if nat_lt p.reached p.time then start.Look (part_at 1 p.reached p.space) else start.Step (step.Part (part_at 0 p.count p.space)))
          else start.Step step.Nothing)
      go true e = count e (nat_lt p.reached p.time) refl
      go false e = refl

pub steps_are_of_plans : StepsAreOfPlans
steps_are_of_plans forms.If p = if_is p
steps_are_of_plans forms.And p = and_is p
steps_are_of_plans forms.Or p = or_is p
steps_are_of_plans forms.First p = refl
steps_are_of_plans forms.Next p = below_is p forms.Next p.time (step.Part (part_at 0 (suc p.time) p.space))
steps_are_of_plans forms.Fby p = zero_is p forms.Fby p.time (step.Part (part_at 0 0 p.space)) (λ u. step.Part (part_at 1 u p.space))
steps_are_of_plans forms.Whenever p = whenever_is p
steps_are_of_plans forms.Asa p = asa_is p
steps_are_of_plans forms.Upon p = upon_is p
steps_are_of_plans forms.Attime p = attime_is p
steps_are_of_plans forms.Initial p = refl
steps_are_of_plans forms.Succ p = below_is p forms.Succ p.space (step.Part (part_at 0 p.time (suc p.space)))
steps_are_of_plans forms.Sby p = zero_is p forms.Sby p.space (step.Part (part_at 0 p.time 0)) (λ r. step.Part (part_at 1 p.time r))
steps_are_of_plans forms.Atspace p = atspace_is p
