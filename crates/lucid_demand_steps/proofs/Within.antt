-- What is looked at is one of the node's parts, at a space.
use Rattle.lucid_demand_steps.proofs.DecidingCommon.{ℕ, sym, subst, arith, last}
use Rattle.std.proofs.Common.{◌≡◌, ◌<◌, ◌≤◌}
use Rattle.lucid_tree.specs.declared.form.Form.{Form}
use Rattle.lucid_tree.specs.Forms.{part_count}
use Rattle.lucid_tree.proofs.FormRows.{few}
use Rattle.lucid_equations.specs.declared.answer.Answer.{Answer}
use Rattle.lucid_equations.specs.declared.step.Place.{Place}
use Rattle.lucid_equations.specs.declared.step.PartAt.{PartAt}
use Rattle.lucid_equations.specs.declared.step.Step.{Step}
use Rattle.lucid_equations.specs.declared.step.Step.TheVariants as step
use Rattle.lucid_equations.specs.declared.step.Start.TheVariants as start
use Rattle.lucid_equations.specs.Steps.{IsPoint, start_of, step_after, StepLooks, StartLooks}
use Rattle.lucid_equations.proofs.Looks.{start_looks, after_looks}

pub few_parts : (n : ℕ) (f : Form) → n ≡ part_count f → n ≤ 3
few_parts n f e = omega (arith, e, (few f).1)

module _ (n : ℕ) (f : Form) (p : Place) (count : n ≡ part_count f) (space : p.space ≤ last) where
  pub first_look : (x : PartAt) → start_of f p ≡ start.Look x → (x.part < n) × (x.space ≤ last)
  first_look x e = subst (StartLooks n) e (start_looks n p space f (omega (arith, count)))

  pub first_step : (x : Step) → start_of f p ≡ start.Step x → StepLooks n x
  first_step x e = subst (StartLooks n) e (start_looks n p space f (omega (arith, count)))

  pub next_step : (a : Answer) → IsPoint a → (x : Step) → x ≡ step_after f p a → StepLooks n x
  next_step a i x e = subst (StepLooks n) (sym e) (after_looks n p space f a (omega (arith, count)) i)

-- the same of a step that is taken
pub part_look : (n : ℕ) (y : Step) (x : PartAt) → y ≡ step.Part x → StepLooks n y → (x.part < n) × (x.space ≤ last)
part_look n y x e h = subst (StepLooks n) e h

pub judged_look : (n : ℕ) (y : Step) (x : PartAt) → y ≡ step.Judge x → StepLooks n y → (x.part < n) × (x.space ≤ last)
judged_look n y x e h = subst (StepLooks n) e h
