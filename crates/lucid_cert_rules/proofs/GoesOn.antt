-- What is left of a plan once a look has a value is the plan of the step that the form takes by what the value tells.
use Rattle.lucid_cert_rules.proofs.FollowingCommon.{◌≡◌, ℕ, suc, ◌-◌, false, true, List, refl, sym, ap, ◌∙◌, subst, arith, le-leb, PlainValue, Plan, gives, find_true, AreFedAlike, Then}
use Rattle.std.proofs.Common.{◌≤◌, Bool}
use Rattle.std.specs.Prelude.{if◌then◌else◌}
use Rattle.lucid_tree.specs.declared.form.Form.{Form}
use Rattle.lucid_tree.specs.declared.form.Form.TheVariants as forms
use Rattle.lucid_tree.specs.Rows.{nothing, gives_part, by_test, at_zero, count_true}
use Rattle.lucid_equations.specs.declared.answer.Answer.{Answer}
use Rattle.lucid_equations.specs.declared.step.Place.{Place}
use Rattle.lucid_equations.specs.declared.step.Step.{Step}
use Rattle.lucid_equations.specs.declared.step.Step.TheVariants as step
use Rattle.lucid_equations.specs.Steps.{answer_of, judged, given_value, one_more, found, step_after, step_plan}
use Rattle.lucid_equations.proofs.Told.{test_told, truth_told}
use Rattle.lucid_equations.proofs.Plans.{found_is}
use Rattle.lucid_cert_rules.specs.RestPlans.{by_then}
use Rattle.lucid_cert_rules.specs.Told.{at_limit, at_point, looked_from, told_plan}
use Rattle.lucid_cert_rules.specs.declared.rest.Look.{Look}
use Rattle.lucid_cert_rules.specs.declared.rest.Then.TheVariants.{Judge, Decide, Find, Count}
use Rattle.lucid_cert_rules.proofs.Alike.{alike, alike_then}

-- A count that goes on, within its limit.
pub counts_on : (p : Place) (b : Bool) → p.time ≤ p.limit
    → step_plan forms.Upon p (step.On b) ≡ count_true (p.time - suc p.reached) (suc p.reached) (one_more b p.count) p.space p.time
counts_on p b low =
    let on : Bool → Plan = λ c. if c then count_true (p.time - suc p.reached) (suc p.reached) (one_more b p.count) p.space p.time else nothing in
    ap on (le-leb p.time p.limit low)

-- A search that goes on wants as many, or one fewer.
pub searches_on : (m w w' t s : ℕ) (b : Bool) → w' ≡ w - one_more b 0
    → step_plan forms.Whenever (record { time = w; space = s; limit = m; reached = t; count = 0 }) (step.On b) ≡ find_true (m - suc t) (suc t) w' s
searches_on m w w' t s b e = ap (λ (x : ℕ). find_true (m - suc t) (suc t) x s) (sym e)

-- So a search that looked goes on as what is left of it at the next time, or as its step,
module _ (most m : ℕ) (l : Look) (w : ℕ) (a : Answer) (p : Place) (x : Step) (q : Plan) (at : p ≡ looked_from l w 0)
    (is : x ≡ step_after forms.Whenever p a) where
  abbrev its : Place
  its = at_limit m (looked_from l w 0)

  found_step : step_after forms.Whenever (looked_from l w 0) a ≡ x
  found_step = ap (λ (y : Place). step_after forms.Whenever y a) (sym at) ∙ sym is

  pub finds_on : (w' : ℕ) (b : Bool) → x ≡ step.On b → w' ≡ w - one_more b 0 → AreFedAlike most (find_true (m - suc l.time) (suc l.time) w' l.space) q
      → AreFedAlike most (told_plan forms.Whenever (at_limit m (looked_from l w 0)) a) q
  finds_on w' b on e h =
      alike_then most (told_plan forms.Whenever its a) (find_true (m - suc l.time) (suc l.time) w' l.space) q
      (ap (step_plan forms.Whenever its) (found_step ∙ on) ∙ searches_on m w w' l.time l.space b e) h

  pub finds_end : ((f : Form) (y : Place) → q ≡ step_plan f y x) → AreFedAlike most (told_plan forms.Whenever (at_limit m (looked_from l w 0)) a) q
  finds_end h = alike most (told_plan forms.Whenever its a) q (ap (step_plan forms.Whenever its) found_step ∙ sym (h forms.Whenever its))

-- and so does a count.
module _ (l : Look) (n until : ℕ) (a : Answer) (p : Place) (x : Step) (q : Plan) (at : p ≡ looked_from l until n) (is : x ≡ step_after forms.Upon p a) where
  abbrev its_count : Place
  its_count = looked_from l until n

  counted_step : x ≡ step_after forms.Upon (looked_from l until n) a
  counted_step = is ∙ ap (λ (y : Place). step_after forms.Upon y a) at

  pub counts_step : (n' : ℕ) (b : Bool) → x ≡ step.On b → n' ≡ one_more b n → q ≡ count_true (until - suc l.time) (suc l.time) n' l.space until
      → q ≡ told_plan forms.Upon (looked_from l until n) a
  counts_step n' b on e h =
      h ∙ ap (λ (k : ℕ). count_true (until - suc l.time) (suc l.time) k l.space until) e ∙ sym (counts_on its_count b (omega arith))
      ∙ ap (step_plan forms.Upon its_count) (sym on ∙ counted_step)

  pub counts_end : ((f : Form) (y : Place) → q ≡ step_plan f y x) → q ≡ told_plan forms.Upon (looked_from l until n) a
  counts_end h = h forms.Upon its_count ∙ ap (step_plan forms.Upon its_count) counted_step

module _ (most m : ℕ) (vs : List PlainValue) (i t s : ℕ) (v : PlainValue) (a : Answer) (told : a ≡ answer_of v) (th : Then) (q : Plan) where
  -- the plan goes on as another one does
  abbrev pub GoesOn : Type 0
  GoesOn = AreFedAlike most (by_then m vs th i t s v) q

  by : (kind : Then) → th ≡ kind → AreFedAlike most (by_then m vs kind i t s v) q → GoesOn
  by kind e h =
      let P : Then → Type 0 = λ x. AreFedAlike most (by_then m vs x i t s v) q in subst P (sym e) h

  -- where the plan is that of a step
  stepped : (f : Form) (p : Place) (kind : Then) → th ≡ kind → by_then m vs kind i t s v ≡ step_plan f p (step_after f p (answer_of v))
      → AreFedAlike most (told_plan f p a) q → GoesOn
  stepped f p kind e is h =
      by kind e (alike_then most (by_then m vs kind i t s v) (told_plan f p a) q (is ∙ ap (told_plan f p) (sym told)) h)

  -- where a form stands that looked at its point
  abbrev here : Place
  here = at_point t s

  pub goes_decide : (f : Form) → th ≡ Decide f → q ≡ told_plan f here a → GoesOn
  goes_decide f e h = stepped f here (Decide f) e refl (alike most (told_plan f here a) q (sym h))

  pub goes_judge : th ≡ Judge → q ≡ gives (given_value (judged a)) → GoesOn
  goes_judge e h =
      by Judge e (alike most (by_then m vs Judge i t s v) q
      (ap gives (truth_told v ∙ ap (λ (x : Answer). given_value (judged x)) (sym told)) ∙ sym h))

  -- a search, for an approximation
  pub goes_find : (w : ℕ) → th ≡ Find w → AreFedAlike most (told_plan forms.Whenever (record { time = w; space = s; limit = m; reached = t; count = 0 }) a) q
      → GoesOn
  goes_find w e = stepped forms.Whenever p (Find w) e (both ∙ test_told forms.Whenever p v (found p) (step.On false))
    where
      p : Place
      p = record { time = w; space = s; limit = m; reached = t; count = 0 }

      wanted : w ≡ w - 0
      wanted = omega arith

      holds : at_zero w (gives_part 0 t s) (λ k. find_true (m - suc t) (suc t) k s) ≡ step_plan forms.Whenever p (found p)
      holds = ap (λ (x : ℕ). at_zero x (gives_part 0 t s) (λ k. find_true (m - suc t) (suc t) k s)) wanted ∙ found_is p

      fails : find_true (m - suc t) (suc t) w s ≡ step_plan forms.Whenever p (step.On false)
      fails = ap (λ (x : ℕ). find_true (m - suc t) (suc t) x s) wanted

      both : by_test v (at_zero w (gives_part 0 t s) (λ k. find_true (m - suc t) (suc t) k s)) (find_true (m - suc t) (suc t) w s)
          ≡ by_test v (step_plan forms.Whenever p (found p)) (step_plan forms.Whenever p (step.On false))
      both = λ j. by_test v (holds j) (fails j)

  -- a count
  pub goes_count : (n until : ℕ) → th ≡ Count n until
      → q ≡ told_plan forms.Upon (record { time = until; space = s; limit = until; reached = t; count = n }) a → GoesOn
  goes_count n until e h =
      stepped forms.Upon p (Count n until) e (both ∙ test_told forms.Upon p v (step.On true) (step.On false)) (alike most (told_plan forms.Upon p a) q (sym h))
    where
      p : Place
      p = record { time = until; space = s; limit = until; reached = t; count = n }

      both : by_test v (count_true (until - suc t) (suc t) (suc n) s until) (count_true (until - suc t) (suc t) n s until)
          ≡ by_test v (step_plan forms.Upon p (step.On true)) (step_plan forms.Upon p (step.On false))
      both = λ j. by_test v (sym (counts_on p true (omega arith)) j) (sym (counts_on p false (omega arith)) j)
