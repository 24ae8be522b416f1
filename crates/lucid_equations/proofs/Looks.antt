-- What a form looks at is one of its parts, at a space.
use Rattle.std.proofs.Common.{◌≡◌, ℕ, zero, suc, ◌<◌, ◌≤◌, Bool, true, false, refl, subst, arith, nat_lt, nat_le, if◌then◌else◌}
use Rattle.std.proofs.lemmas.Bool.{ltb-true}
use Rattle.lucid_tree.specs.declared.form.Form.{Form}
use Rattle.lucid_tree.specs.declared.form.Form.TheVariants as forms
use Rattle.lucid_tree.specs.Forms.{form_row, part_count}
use Rattle.lucid_tree.specs.declared.form.Decider.TheVariants.{Target}
use Rattle.lucid_tree.specs.Rows.{last}
use Rattle.lucid_equations.specs.declared.answer.Answer.{Answer}
use Rattle.lucid_equations.specs.declared.step.Place.{Place}
use Rattle.lucid_equations.specs.declared.step.PartAt.{PartAt}
use Rattle.lucid_equations.specs.declared.step.Given.TheVariants.{Truth, Fault}
use Rattle.lucid_equations.specs.declared.step.Step.{Step}
use Rattle.lucid_equations.specs.declared.step.Step.TheVariants as step
use Rattle.lucid_equations.specs.declared.step.Start.{Start}
use Rattle.lucid_equations.specs.declared.step.Start.TheVariants as start
use Rattle.lucid_equations.specs.Steps.{IsPoint, part_at, from_zero, start_of, found, step_after, StepLooks, StartLooks, StepInside, StartInside, IsDecided, EndsSearch}
use Rattle.lucid_equations.proofs.Told.{by_its_answer, to_its_point}

-- What holds of both sides of a test holds of what is chosen.
pub of_both : {A : Type 0} (P : A → Type 0) (b : Bool) (x y : A) → (b ≡ true → P x) → (b ≡ false → P y) → P (if b then x else y)
of_both P true x y holds fails = holds refl
of_both P false x y holds fails = fails refl

pub of_each : (P : Step → Type 0) (n : ℕ) (x : Step) (k : ℕ → Step) → (n ≡ 0 → P x) → ((m : ℕ) → n ≡ suc m → P (k m)) → P (from_zero n x k)
of_each P zero x k first later = first refl
of_each P (suc n) x k first later = later n refl

pub within : (i count n : ℕ) → i < count → count ≤ n → i < n
within i count n l h = omega (arith, l, h)

-- a search that has not come past the last time
abbrev pub IsEarly : Place → Type 0
IsEarly p = (p.time ≤ last) × (p.reached ≤ last) × (p.count ≤ last)

-- What is looked at is one of so many parts, at a space; and at a time, where the search is early.
abbrev Near : (count : ℕ) → Place → PartAt → Type 0
Near n p x = (x.part < n) × (IsEarly p → x.time ≤ last) × (x.space ≤ last)

abbrev StepNear : (count : ℕ) → Place → Step → Type 0
StepNear n p (step.Part x) = Near n p x
StepNear n p (step.Judge x) = Near n p x
StepNear n p _ = Unit {0}

abbrev StartNear : (count : ℕ) → Place → Start → Type 0
StartNear n p (start.Look x) = Near n p x
StartNear n p (start.Step y) = StepNear n p y

module _ (n : ℕ) (p : Place) (space : p.space ≤ last) where
  start_near : (f : Form) → part_count f ≤ n → StartNear n p (start_of f p)
  start_near forms.If h = (within 0 3 n (omega arith) h, λ early. early.0, space)
  start_near forms.And h = (within 0 2 n (omega arith) h, λ early. early.0, space)
  start_near forms.Or h = (within 0 2 n (omega arith) h, λ early. early.0, space)
  start_near forms.First h = (within 0 1 n (omega arith) h, λ early. omega arith, space)
  start_near forms.Next h =
      of_both (StepNear n p) (nat_lt p.time last) (step.Part (part_at 0 (suc p.time) p.space)) (step.Give Fault)
      (λ e. (within 0 1 n (omega arith) h, λ early. omega (arith, ltb-true p.time last e), space)) (λ e. tt)
  start_near forms.Fby h =
      of_each (StepNear n p) p.time (step.Part (part_at 0 0 p.space)) (λ u. step.Part (part_at 1 u p.space))
      (λ e. (within 0 2 n (omega arith) h, λ early. omega arith, space)) (λ u e. (within 1 2 n (omega arith) h, λ early. omega (arith, early.0, e), space))
  start_near forms.Upon h =
      of_both (StartNear n p) (nat_le p.time p.limit)
      (if nat_lt p.reached p.time then start.Look (part_at 1 p.reached p.space) else start.Step (step.Part (part_at 0 p.count p.space))) (start.Step step.Nothing)
      (λ e. of_both (StartNear n p) (nat_lt p.reached p.time) (start.Look (part_at 1 p.reached p.space)) (start.Step (step.Part (part_at 0 p.count p.space)))
      (λ e. (within 1 2 n (omega arith) h, λ early. early.1, space)) (λ e. (within 0 2 n (omega arith) h, λ early. early.2, space))) (λ e. tt)
  start_near forms.Attime h = (within 1 2 n (omega arith) h, λ early. early.0, space)
  start_near forms.Initial h = (within 0 1 n (omega arith) h, λ early. early.0, omega arith)
  start_near forms.Succ h =
      of_both (StepNear n p) (nat_lt p.space last) (step.Part (part_at 0 p.time (suc p.space))) (step.Give Fault)
      (λ e. (within 0 1 n (omega arith) h, λ early. early.0, omega (arith, ltb-true p.space last e))) (λ e. tt)
  start_near forms.Sby h =
      of_each (StepNear n p) p.space (step.Part (part_at 0 p.time 0)) (λ r. step.Part (part_at 1 p.time r))
      (λ e. (within 0 2 n (omega arith) h, λ early. early.0, omega arith)) (λ r e. (within 1 2 n (omega arith) h, λ early. early.0, omega (arith, space, e)))
  start_near forms.Atspace h = (within 1 2 n (omega arith) h, λ early. early.0, space)
  -- `whenever` and `asa`
  start_near f h =
      of_both (StartNear n p) (nat_lt p.reached p.limit) (start.Look (part_at 1 p.reached p.space)) (start.Step step.Nothing)
      (λ e. (within 1 2 n (omega arith) h, λ early. early.1, space)) (λ e. tt)

  after_near : (f : Form) (a : Answer) → part_count f ≤ n → IsPoint a → StepNear n p (step_after f p a)
  after_near forms.If a h i =
      by_its_answer (StepNear n p) a (step.Part (part_at 1 p.time p.space)) (step.Part (part_at 2 p.time p.space))
      (within 1 3 n (omega arith) h, λ early. early.0, space) (within 2 3 n (omega arith) h, λ early. early.0, space) tt tt
  after_near forms.And a h i =
      by_its_answer (StepNear n p) a (step.Judge (part_at 1 p.time p.space)) (step.Give (Truth false))
      (within 1 2 n (omega arith) h, λ early. early.0, space) tt tt tt
  after_near forms.Or a h i =
      by_its_answer (StepNear n p) a (step.Give (Truth true)) (step.Judge (part_at 1 p.time p.space)) tt
      (within 1 2 n (omega arith) h, λ early. early.0, space) tt tt
  after_near forms.Whenever a h i =
      by_its_answer (StepNear n p) a (found p) (step.On false)
      (of_both (StepNear n p) (nat_le p.time p.count) (step.Part (part_at 0 p.reached p.space)) (step.On true)
      (λ e. (within 0 2 n (omega arith) h, λ early. early.1, space)) (λ e. tt)) tt tt tt
  after_near forms.Asa a h i =
      by_its_answer (StepNear n p) a (step.Part (part_at 0 p.reached p.space)) (step.On false)
      (within 0 2 n (omega arith) h, λ early. early.1, space) tt tt tt
  after_near forms.Upon a h i = by_its_answer (StepNear n p) a (step.On true) (step.On false) tt tt tt tt
  after_near forms.Attime a h i =
      to_its_point (StepNear n p) a (λ u. step.Part (part_at 0 u p.space)) (λ u e. (within 0 2 n (omega arith) h, λ early. subst IsPoint e i, space)) tt tt
  after_near forms.Atspace a h i =
      to_its_point (StepNear n p) a (λ r. step.Part (part_at 0 p.time r)) (λ r e. (within 0 2 n (omega arith) h, λ early. early.0, subst IsPoint e i)) tt tt
  after_near f a h i = tt

  -- So it is one of the parts at a space,
  step_looks : (x : Step) → StepNear n p x → StepLooks n x
  step_looks (step.Part x) h = (h.0, h.2)
  step_looks (step.Judge x) h = (h.0, h.2)
  step_looks x h = tt

  pub start_looks : (f : Form) → part_count f ≤ n → StartLooks n (start_of f p)
  start_looks f h = go (start_of f p) (start_near f h)
    where
      go : (x : Start) → StartNear n p x → StartLooks n x
      go (start.Look x) h = (h.0, h.2)
      go (start.Step y) h = step_looks y h

  pub after_looks : (f : Form) (a : Answer) → part_count f ≤ n → IsPoint a → StepLooks n (step_after f p a)
  after_looks f a h i = step_looks (step_after f p a) (after_near f a h i)

  -- and at a time, where the search is early.
  module _ (early : IsEarly p) where
    step_inside : (x : Step) → StepNear n p x → StepInside n x
    step_inside (step.Part x) h = (h.0, h.1 early, h.2)
    step_inside (step.Judge x) h = (h.0, h.1 early, h.2)
    step_inside x h = tt

    pub start_inside : (f : Form) → part_count f ≤ n → StartInside n (start_of f p)
    start_inside f h = go (start_of f p) (start_near f h)
      where
        go : (x : Start) → StartNear n p x → StartInside n x
        go (start.Look x) h = (h.0, h.1 early, h.2)
        go (start.Step y) h = step_inside y h

    pub after_inside : (f : Form) (a : Answer) → part_count f ≤ n → IsPoint a → StepInside n (step_after f p a)
    after_inside f a h i = step_inside (step_after f p a) (after_near f a h i)

-- After the look of a form that one look decides no search goes on.
pub after_ends : (f : Form) (p : Place) (a : Answer) → IsDecided f → EndsSearch (step_after f p a)
after_ends forms.If p a d = by_its_answer EndsSearch a (step.Part (part_at 1 p.time p.space)) (step.Part (part_at 2 p.time p.space)) tt tt tt tt
after_ends forms.And p a d = by_its_answer EndsSearch a (step.Judge (part_at 1 p.time p.space)) (step.Give (Truth false)) tt tt tt tt
after_ends forms.Or p a d = by_its_answer EndsSearch a (step.Give (Truth true)) (step.Judge (part_at 1 p.time p.space)) tt tt tt tt
after_ends forms.Attime p a d = to_its_point EndsSearch a (λ u. step.Part (part_at 0 u p.space)) (λ n e. tt) tt tt
after_ends forms.Atspace p a d = to_its_point EndsSearch a (λ r. step.Part (part_at 0 p.time r)) (λ n e. tt) tt tt
after_ends f p a d = absurd d

-- By the target of its second part a form gives its first part, or a value by itself.
abbrev pub IsTargeted : Form → Type 0
IsTargeted f = (form_row f).decider ≡ Target

abbrev pub GivesFirst : Step → Type 0
GivesFirst (step.Part x) = x.part ≡ 0
GivesFirst (step.Give g) = Unit {0}
GivesFirst _ = ⊥

pub gives_first : (p : Place) (a : Answer) (f : Form) → IsTargeted f → GivesFirst (step_after f p a)
gives_first p a forms.Attime e = to_its_point GivesFirst a (λ u. step.Part (part_at 0 u p.space)) (λ u h. refl) tt tt
gives_first p a forms.Atspace e = to_its_point GivesFirst a (λ r. step.Part (part_at 0 p.time r)) (λ r h. refl) tt tt
gives_first p a f e = absurd (cc)
