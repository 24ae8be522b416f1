-- The steps of a form over streams: the part that it looks at first where its search stands, what it does by what that part's value tells,
-- and that these are the steps of its plan.
use Rattle.std.specs.Prelude.{◌≡◌, ℕ, zero, suc, ◌<◌, ◌≤◌, Bool, true, false, pos, nat_lt, nat_le, if◌then◌else◌}
use Rattle.lucid_value.specs.Plain.{PlainValue, int, truth, eod, fault}
use Rattle.lucid_tree.specs.declared.form.Form.{Form}
use Rattle.lucid_tree.specs.declared.form.Form.TheVariants as forms
use Rattle.lucid_tree.specs.declared.form.Decider.{Decider}
use Rattle.lucid_tree.specs.Forms.{form_row}
use Rattle.lucid_tree.specs.declared.form.Decider.TheVariants.{Point, Test, Target, Search}
use Rattle.lucid_tree.specs.Tree.{stream}
use Rattle.lucid_tree.specs.Rows.{Plan, gives, nothing, last, look, gives_part, only_truth}
use Rattle.lucid_tree.specs.Rests.{rest_at}
use Rattle.lucid_equations.specs.declared.answer.Answer.{Answer}
use Rattle.lucid_equations.specs.declared.answer.Answer.TheVariants.{Holds, At, Ended, Other}
use Rattle.lucid_equations.specs.declared.step.Place.{Place}
use Rattle.lucid_equations.specs.declared.step.PartAt.{PartAt}
use Rattle.lucid_equations.specs.declared.step.Given.{Given}
use Rattle.lucid_equations.specs.declared.step.Given.TheVariants.{Truth, End, Fault}
use Rattle.lucid_equations.specs.declared.step.Step.{Step}
use Rattle.lucid_equations.specs.declared.step.Step.TheVariants as step
use Rattle.lucid_equations.specs.declared.step.Start.{Start}
use Rattle.lucid_equations.specs.declared.step.Start.TheVariants as start

-- what a part's value tells: a truth, a time or a space, the end of data, or any other value
abbrev pub answer_of : PlainValue → Answer
answer_of (truth holds) = Holds holds
answer_of (int (pos n)) = if nat_le n last then At n else Other
answer_of eod = Ended
answer_of _ = Other

-- a time or a space is at most the last
abbrev pub IsPoint : Answer → Type 0
IsPoint (At n) = n ≤ last
IsPoint _ = Unit {0}

-- a truth or the end of data as it is, else an error
abbrev pub judged : Answer → Given
judged (Holds holds) = Truth holds
judged Ended = End
judged _ = Fault

-- a part, at a time and a space
abbrev pub part_at : (part time space : ℕ) → PartAt
part_at i t s = record { part = i; time = t; space = s }

-- on by a truth; what is no truth ends it
abbrev pub by_truth : Answer → (on off : Step) → Step
by_truth (Holds true) on off = on
by_truth (Holds false) on off = off
by_truth Ended on off = step.Give End
by_truth _ on off = step.Give Fault

-- on to a time or a space; what is none ends it
abbrev pub to_point : Answer → (ℕ → Step) → Step
to_point (At n) k = k n
to_point Ended k = step.Give End
to_point _ k = step.Give Fault

-- one step at 0, and one by the number before further on
abbrev pub from_zero : ℕ → Step → (ℕ → Step) → Step
from_zero zero x k = x
from_zero (suc n) x k = k n

-- a step below the last time or space, an error there
abbrev pub below_last : ℕ → Step → Step
below_last n x = if nat_lt n last then x else step.Give Fault

-- What the forms do that only move the point.
abbrev pub moved_step : Form → Place → Step
moved_step forms.First p = step.Part (part_at 0 0 p.space)
moved_step forms.Next p = below_last p.time (step.Part (part_at 0 (suc p.time) p.space))
moved_step forms.Fby p = from_zero p.time (step.Part (part_at 0 0 p.space)) (λ u. step.Part (part_at 1 u p.space))
moved_step forms.Initial p = step.Part (part_at 0 p.time 0)
moved_step forms.Succ p = below_last p.space (step.Part (part_at 0 p.time (suc p.space)))
moved_step forms.Sby p = from_zero p.space (step.Part (part_at 0 p.time 0)) (λ r. step.Part (part_at 1 p.time r))
moved_step _ p = step.Nothing

-- `whenever` and `asa` look at the time that they have come to, below the limit
abbrev pub searched : Place → Start
searched p = if nat_lt p.reached p.limit then start.Look (part_at 1 p.reached p.space) else start.Step step.Nothing

-- `upon` looks at each time below its own, which is at most the limit, and gives part 0 at the time that is the count
abbrev pub counted : Place → Start
counted p =
    if nat_le p.time p.limit
    then (if nat_lt p.reached p.time then start.Look (part_at 1 p.reached p.space) else start.Step (step.Part (part_at 0 p.count p.space)))
    else start.Step step.Nothing

-- What a search does first: `upon` counts, and the others look for a true value.
abbrev pub search_start : Form → Place → Start
search_start forms.Upon p = counted p
search_start _ p = searched p

-- What a form does first where its search stands: by what decides, it looks at a part, or takes a step at once.
abbrev pub start_by : Decider → Form → Place → Start
start_by Point f p = start.Step (moved_step f p)
start_by Test f p = start.Look (part_at 0 p.time p.space)
start_by Target f p = start.Look (part_at 1 p.time p.space)
start_by Search f p = search_start f p

abbrev pub start_of : Form → Place → Start
start_of f p = start_by (form_row f).decider f p

-- `whenever` at a true value: as many are below it as its time says, or it goes on
abbrev pub found : Place → Step
found p = if nat_le p.time p.count then step.Part (part_at 0 p.reached p.space) else step.On true

-- What it does once that part's value tells this.
abbrev pub step_after : Form → Place → Answer → Step
step_after forms.If p a = by_truth a (step.Part (part_at 1 p.time p.space)) (step.Part (part_at 2 p.time p.space))
step_after forms.And p a = by_truth a (step.Judge (part_at 1 p.time p.space)) (step.Give (Truth false))
step_after forms.Or p a = by_truth a (step.Give (Truth true)) (step.Judge (part_at 1 p.time p.space))
step_after forms.Whenever p a = by_truth a (found p) (step.On false)
step_after forms.Asa p a = by_truth a (step.Part (part_at 0 p.reached p.space)) (step.On false)
step_after forms.Upon p a = by_truth a (step.On true) (step.On false)
step_after forms.Attime p a = to_point a (λ u. step.Part (part_at 0 u p.space))
step_after forms.Atspace p a = to_point a (λ r. step.Part (part_at 0 p.time r))
step_after _ p a = step.Nothing

-- what a form gives by itself
abbrev pub given_value : Given → PlainValue
given_value (Truth holds) = truth holds
given_value End = eod
given_value Fault = fault

-- with one more where it is true
abbrev pub one_more : Bool → ℕ → ℕ
one_more true n = suc n
one_more false n = n

-- The plan of a step. A search goes on with what is left of its plan at the next time.
abbrev pub step_plan : Form → Place → Step → Plan
step_plan f p (step.Part x) = gives_part x.part x.time x.space
step_plan f p (step.Judge x) = look x.part x.time x.space 0 (λ v. gives (only_truth v))
step_plan f p (step.Give g) = gives (given_value g)
step_plan f p (step.On seen) = rest_at (stream f) p.limit (suc p.reached) (one_more seen p.count) p.time p.space
step_plan f p step.Nothing = nothing

-- the limit below which no approximation takes the look that decides
abbrev pub least_of : Form → Place → ℕ
least_of forms.Whenever p = suc p.reached
least_of forms.Asa p = suc p.reached
least_of forms.Upon p = p.time
least_of _ p = 0

-- the plan with which a form begins
abbrev pub start_plan : Form → Place → Start → Plan
start_plan f p (start.Look x) = look x.part x.time x.space (least_of f p) (λ v. step_plan f p (step_after f p (answer_of v)))
start_plan f p (start.Step y) = step_plan f p y

-- The law: what is left of a form's plan, wherever its search stands, is that with which it begins there.
abbrev pub StepsAreOfPlans : Type 0
StepsAreOfPlans = (f : Form) (p : Place) → rest_at (stream f) p.limit p.reached p.count p.time p.space ≡ start_plan f p (start_of f p)

-- What is looked at is one of so many parts, at a space.
abbrev pub StepLooks : (count : ℕ) → Step → Type 0
StepLooks n (step.Part x) = (x.part < n) × (x.space ≤ last)
StepLooks n (step.Judge x) = (x.part < n) × (x.space ≤ last)
StepLooks n _ = Unit {0}

abbrev pub StartLooks : (count : ℕ) → Start → Type 0
StartLooks n (start.Look x) = (x.part < n) × (x.space ≤ last)
StartLooks n (start.Step y) = StepLooks n y

-- What decides is no search.
abbrev pub NoSearch : Decider → Type 0
NoSearch Search = ⊥
NoSearch d = Unit {0}

abbrev pub IsNoSearch : Form → Type 0
IsNoSearch f = NoSearch (form_row f).decider

-- What decides is the value of one look at the point.
abbrev pub OneLook : Decider → Type 0
OneLook Test = Unit {0}
OneLook Target = Unit {0}
OneLook d = ⊥

abbrev pub IsDecided : Form → Type 0
IsDecided f = OneLook (form_row f).decider

-- no search goes on after a step
abbrev pub EndsSearch : Step → Type 0
EndsSearch (step.On seen) = ⊥
EndsSearch step.Nothing = ⊥
EndsSearch _ = Unit {0}

-- What is looked at is one of so many parts, at a time and a space.
abbrev pub StepInside : (count : ℕ) → Step → Type 0
StepInside n (step.Part x) = (x.part < n) × (x.time ≤ last) × (x.space ≤ last)
StepInside n (step.Judge x) = (x.part < n) × (x.time ≤ last) × (x.space ≤ last)
StepInside n _ = Unit {0}

abbrev pub StartInside : (count : ℕ) → Start → Type 0
StartInside n (start.Look x) = (x.part < n) × (x.time ≤ last) × (x.space ≤ last)
StartInside n (start.Step y) = StepInside n y
