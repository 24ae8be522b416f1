-- After which steps no search goes on, and what they look at.
use Rattle.lucid_cert_rules.proofs.FollowingCommon.{◌≡◌, ℕ, suc, ◌<◌, ◌≤◌, true, false, refl, sym, ap, ◌∙◌, subst, nat_le, last}
use Rattle.std.proofs.Common.{Bool, nat_lt}
use Rattle.std.proofs.lemmas.Bool.{leb-false}
use Rattle.lucid_tree.specs.declared.form.Form.{Form}
use Rattle.lucid_tree.specs.declared.form.Form.TheVariants as forms
use Rattle.lucid_equations.specs.declared.answer.Answer.{Answer}
use Rattle.lucid_equations.specs.declared.step.Place.{Place}
use Rattle.lucid_equations.specs.declared.step.Given.TheVariants.{Fault}
use Rattle.lucid_equations.specs.declared.step.Step.{Step}
use Rattle.lucid_equations.specs.declared.step.Step.TheVariants as step
use Rattle.lucid_equations.specs.declared.step.Start.{Start}
use Rattle.lucid_equations.specs.declared.step.Start.TheVariants as start
use Rattle.lucid_equations.specs.Steps.{part_at, start_of, found, step_after, IsDecided, IsNoSearch, EndsSearch, StepInside}
use Rattle.lucid_equations.proofs.Told.{by_its_answer}
use Rattle.lucid_equations.proofs.Looks.{of_both, of_each}

-- A form that doesn't search begins with a look whose value decides, or with a step after which no search goes on.
abbrev pub IsBegun : Form → Start → Type 0
IsBegun f (start.Look x) = IsDecided f
IsBegun f (start.Step y) = EndsSearch y

pub begun_so : (f : Form) → IsNoSearch f → (p : Place) → IsBegun f (start_of f p)
begun_so forms.Next h p = of_both EndsSearch (nat_lt p.time last) (step.Part (part_at 0 (suc p.time) p.space)) (step.Give Fault) (λ e. tt) (λ e. tt)
begun_so forms.Fby h p = of_each EndsSearch p.time (step.Part (part_at 0 0 p.space)) (λ u. step.Part (part_at 1 u p.space)) (λ e. tt) (λ u e. tt)
begun_so forms.Succ h p = of_both EndsSearch (nat_lt p.space last) (step.Part (part_at 0 p.time (suc p.space))) (step.Give Fault) (λ e. tt) (λ e. tt)
begun_so forms.Sby h p = of_each EndsSearch p.space (step.Part (part_at 0 p.time 0)) (λ r. step.Part (part_at 1 p.time r)) (λ e. tt) (λ r e. tt)
begun_so forms.Whenever h p = absurd h
begun_so forms.Asa h p = absurd h
begun_so forms.Upon h p = absurd h
begun_so f h p = tt

-- No search goes on that isn't told to.
abbrev HasStep : Step → Type 0
HasStep step.Nothing = ⊥
HasStep _ = Unit {0}

ends_unless : (x : Step) → HasStep x → ((b : Bool) → x ≡ step.On b → ⊥) → EndsSearch x
ends_unless (step.On b) h fails = fails b refl
ends_unless step.Nothing h fails = h
ends_unless x h fails = tt

pub whenever_ends : (p : Place) (a : Answer) (x : Step) → x ≡ step_after forms.Whenever p a → ((b : Bool) → x ≡ step.On b → ⊥) → EndsSearch x
whenever_ends p a x e fails =
    ends_unless x (subst HasStep (sym e) (by_its_answer HasStep a (found p) (step.On false)
    (of_both HasStep (nat_le p.time p.count) (step.Part (part_at 0 p.reached p.space)) (step.On true) (λ h. tt) (λ h. tt)) tt tt tt)) fails

pub upon_ends : (p : Place) (a : Answer) (x : Step) → x ≡ step_after forms.Upon p a → ((b : Bool) → x ≡ step.On b → ⊥) → EndsSearch x
upon_ends p a x e fails = ends_unless x (subst HasStep (sym e) (by_its_answer HasStep a (step.On true) (step.On false) tt tt tt tt)) fails

-- A search that goes on after a true value wants one more.
abbrev WantsMore : Place → Step → Type 0
WantsMore p (step.On true) = p.count < p.time
WantsMore p _ = Unit {0}

pub wants_more : (p : Place) (a : Answer) (x : Step) (b : Bool) → x ≡ step_after forms.Whenever p a → x ≡ step.On b → b ≡ true → p.count < p.time
wants_more p a x b e on holds =
    subst (WantsMore p) (sym e ∙ on ∙ ap step.On holds)
    (by_its_answer (WantsMore p) a (found p) (step.On false)
    (of_both (WantsMore p) (nat_le p.time p.count) (step.Part (part_at 0 p.reached p.space)) (step.On true) (λ h. tt) (λ h. leb-false p.time p.count h)) tt tt tt)

-- What is looked at after a look of a search.
module _ (n : ℕ) (p : Place) (a : Answer) where
  pub whenever_inside : 0 < n → p.reached ≤ last → p.space ≤ last → (x : Step) → x ≡ step_after forms.Whenever p a → StepInside n x
  whenever_inside h t s x e =
      subst (StepInside n) (sym e) (by_its_answer (StepInside n) a (found p) (step.On false)
      (of_both (StepInside n) (nat_le p.time p.count) (step.Part (part_at 0 p.reached p.space)) (step.On true) (λ q. (h, t, s)) (λ q. tt)) tt tt tt)

  pub upon_inside : (x : Step) → x ≡ step_after forms.Upon p a → StepInside n x
  upon_inside x e = subst (StepInside n) (sym e) (by_its_answer (StepInside n) a (step.On true) (step.On false) tt tt tt tt)
