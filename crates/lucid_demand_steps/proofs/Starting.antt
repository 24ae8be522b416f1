-- What a form looks at first is the look of the row's part, and so is what it looks at by what that part's value tells.
use Rattle.lucid_demand_steps.proofs.DecidingCommon.{ℕ, suc, Option, refl, ap, ◌∙◌, arith, nat_lt, nat_le, if◌then◌else◌, PlainValue, truth, last, PlainRow, value_of_part}
use Rattle.std.proofs.Common.{◌≡◌, ◌<◌, Bool, true, false, Some, None}
use Rattle.std.proofs.lemmas.Bool.{ltb-true, leb-true, leb-false}
use Rattle.lucid_tree.specs.declared.form.Form.{Form}
use Rattle.lucid_tree.specs.declared.form.Form.TheVariants as forms
use Rattle.lucid_tree.specs.Forms.{part_count}
use Rattle.lucid_tree.specs.Tree.{stream}
use Rattle.lucid_equations.specs.declared.step.PartAt.{PartAt}
use Rattle.lucid_equations.specs.declared.step.Given.TheVariants.{Truth, Fault}
use Rattle.lucid_equations.specs.declared.step.Step.{Step}
use Rattle.lucid_equations.specs.declared.step.Step.TheVariants as step
use Rattle.lucid_equations.specs.declared.step.Start.{Start}
use Rattle.lucid_equations.specs.declared.step.Start.TheVariants as start
use Rattle.lucid_equations.specs.Steps.{answer_of, part_at, by_truth, start_of, found, step_after, least_of}
use Rattle.lucid_equations.proofs.Told.{by_its_truth}
use Rattle.lucid_equations.proofs.Looks.{of_both, of_each, IsTargeted, GivesFirst, gives_first}
use Rattle.lucid_equations.specs.Moving.{onward}
use Rattle.lucid_demand_steps.specs.Parts.{look_of, look_of_row, look_of_step}
use Rattle.lucid_demand_steps.specs.Taken.{place_of, IsLook, SearchesOn, Fits}

-- what is looked at first is the look of the row's part, and what is done by each value of it fits
pub record StartsRight (f : Form) (r : PlainRow) (x : PartAt) : Type 0 where
  pub look : IsLook f r x (least_of f (place_of r))
  pub few : x.part < 3
  pub after : (v : PlainValue) → value_of_part r x.part ≡ Some v → Fits f r (step_after f (place_of r) (answer_of v))

abbrev pub StartFits : Form → PlainRow → Start → Type 0
StartFits f r (start.Look x) = StartsRight f r x
StartFits f r (start.Step y) = Fits f r y

-- A row's form doesn't only move the point.
abbrev pub IsStill : Form → PlainRow → Type 0
IsStill f r = (i u s : ℕ) → onward (stream f) r.task.time r.task.space ≡ Some (record { part = i; time = u; space = s }) → i < part_count f → ⊥

module _ (r : PlainRow) where
  -- on by a truth of part 1, which a search has
  seen : (f : Form) (holds : Step) → (v : PlainValue) → value_of_part r 1 ≡ Some v → (value_of_part r 1 ≡ Some (truth true) → Fits f r holds)
      → (value_of_part r 1 ≡ Some (truth false) → SearchesOn f r false) → Fits f r (by_truth (answer_of v) holds (step.On false))
  seen f holds v has on off =
      by_its_truth (Fits f r) v holds (step.On false) (λ e. on (has ∙ ap Some e)) (λ e. off (has ∙ ap Some e)) tt tt

  whenever_fits : StartFits forms.Whenever r (start_of forms.Whenever (place_of r))
  whenever_fits =
      of_both (StartFits forms.Whenever r) (nat_lt r.cursor.time r.task.limit) (start.Look (part_at 1 r.cursor.time r.task.space)) (start.Step step.Nothing)
      (λ below. record {
        look = refl;
        few = omega arith;
        after = λ v has. seen forms.Whenever (found (place_of r)) v has
            (λ holds. of_both (Fits forms.Whenever r) (nat_le r.task.time r.cursor.count) (step.Part (part_at 0 r.cursor.time r.task.space)) (step.On true) (λ e. refl)
            (λ more. record {
              search = refl;
              value = holds;
              before = ltb-true r.cursor.time r.task.limit below;
              within = λ h. omega (arith, leb-false r.task.time r.cursor.count more);
            }))
            (λ fails. record { search = refl; value = fails; before = ltb-true r.cursor.time r.task.limit below; within = λ h. h });
      }) (λ past. tt)

  asa_fits : StartFits forms.Asa r (start_of forms.Asa (place_of r))
  asa_fits =
      of_both (StartFits forms.Asa r) (nat_lt r.cursor.time r.task.limit) (start.Look (part_at 1 r.cursor.time r.task.space)) (start.Step step.Nothing)
      (λ below. record {
        look = refl;
        few = omega arith;
        after = λ v has. seen forms.Asa (step.Part (part_at 0 r.cursor.time r.task.space)) v has (λ holds. refl)
            (λ fails. record { search = refl; value = fails; before = ltb-true r.cursor.time r.task.limit below; within = λ h. h });
      }) (λ past. tt)

  upon_goes : (b : Bool) → nat_le r.task.time r.task.limit ≡ true → nat_lt r.cursor.time r.task.time ≡ true → value_of_part r 1 ≡ Some (truth b)
      → SearchesOn forms.Upon r b
  upon_goes true low below has = record {
    search = refl;
    value = has;
    before = omega (arith, ltb-true r.cursor.time r.task.time below, leb-true r.task.time r.task.limit low);
    within = λ h. omega (arith, ltb-true r.cursor.time r.task.time below);
  }
  upon_goes false low below has = record {
    search = refl;
    value = has;
    before = omega (arith, ltb-true r.cursor.time r.task.time below, leb-true r.task.time r.task.limit low);
    within = λ h. omega (arith, ltb-true r.cursor.time r.task.time below);
  }

  upon_fits : StartFits forms.Upon r (start_of forms.Upon (place_of r))
  upon_fits =
      of_both (StartFits forms.Upon r) (nat_le r.task.time r.task.limit)
      (if nat_lt r.cursor.time r.task.time then start.Look (part_at 1 r.cursor.time r.task.space) else start.Step (step.Part (part_at 0 r.cursor.count r.task.space)))
      (start.Step step.Nothing)
      (λ low. of_both (StartFits forms.Upon r) (nat_lt r.cursor.time r.task.time) (start.Look (part_at 1 r.cursor.time r.task.space))
      (start.Step (step.Part (part_at 0 r.cursor.count r.task.space)))
      (λ below. record {
        look = refl;
        few = omega arith;
        after = λ v has. seen forms.Upon (step.On true) v has (λ holds. upon_goes true low below holds) (λ fails. upon_goes false low below fails);
      }) (λ e. refl)) (λ past. tt)

  -- a form that looks at the point
  if_fits : StartFits forms.If r (start_of forms.If (place_of r))
  if_fits = record {
    look = refl;
    few = omega arith;
    after = λ v has. by_its_truth (Fits forms.If r) v (step.Part (part_at 1 r.task.time r.task.space)) (step.Part (part_at 2 r.task.time r.task.space)) (λ e. refl) (λ e. refl) tt tt;
  }

  and_fits : StartFits forms.And r (start_of forms.And (place_of r))
  and_fits = record {
    look = refl;
    few = omega arith;
    after = λ v has. by_its_truth (Fits forms.And r) v (step.Judge (part_at 1 r.task.time r.task.space)) (step.Give (Truth false)) (λ e. refl) (λ e. tt) tt tt;
  }

  or_fits : StartFits forms.Or r (start_of forms.Or (place_of r))
  or_fits = record {
    look = refl;
    few = omega arith;
    after = λ v has. by_its_truth (Fits forms.Or r) v (step.Give (Truth true)) (step.Judge (part_at 1 r.task.time r.task.space)) (λ e. tt) (λ e. refl) tt tt;
  }

  -- Of a form that looks for a target: a step that gives part 0 is the look of part 0,
  first_fits : (f : Form) (x : Step) → look_of_row (stream f) r 0 ≡ look_of_step x → GivesFirst x → Fits f r x
  first_fits f (step.Part x) is first = ap (look_of_row (stream f) r) first ∙ is
  first_fits f (step.Judge x) is first = absurd first
  first_fits f (step.On seen) is first = absurd first
  first_fits f x is first = tt

  -- so its step by the value of part 1 fits.
  target_fits : (f : Form) → ((v : PlainValue) → look_of (stream f) r.cursor (Some v) r.task.time r.task.space 0
      ≡ look_of_step (step_after f (place_of r) (answer_of v))) → IsTargeted f → (v : PlainValue) → value_of_part r 1 ≡ Some v
      → Fits f r (step_after f (place_of r) (answer_of v))
  target_fits f is target v has =
      first_fits f (step_after f (place_of r) (answer_of v))
      (ap (λ (o : Option PlainValue). look_of (stream f) r.cursor o r.task.time r.task.space 0) has ∙ is v)
      (gives_first (place_of r) (answer_of v) f target)

  -- what only moves the point is no row's, but at the last time and space
  next_fits : IsStill forms.Next r → StartFits forms.Next r (start_of forms.Next (place_of r))
  next_fits still =
      of_both (Fits forms.Next r) (nat_lt r.task.time last) (step.Part (part_at 0 (suc r.task.time) r.task.space)) (step.Give Fault)
      (λ low. let to : Bool → Option PartAt = λ b. if b then Some (record { part = 0; time = suc r.task.time; space = r.task.space }) else None in
      absurd (still 0 (suc r.task.time) r.task.space (ap to low) (omega arith))) (λ e. tt)

  succ_fits : IsStill forms.Succ r → StartFits forms.Succ r (start_of forms.Succ (place_of r))
  succ_fits still =
      of_both (Fits forms.Succ r) (nat_lt r.task.space last) (step.Part (part_at 0 r.task.time (suc r.task.space))) (step.Give Fault)
      (λ low. let to : Bool → Option PartAt = λ b. if b then Some (record { part = 0; time = r.task.time; space = suc r.task.space }) else None in
      absurd (still 0 r.task.time (suc r.task.space) (ap to low) (omega arith))) (λ e. tt)

  fby_fits : IsStill forms.Fby r → StartFits forms.Fby r (start_of forms.Fby (place_of r))
  fby_fits still =
      of_each (Fits forms.Fby r) r.task.time (step.Part (part_at 0 0 r.task.space)) (λ u. step.Part (part_at 1 u r.task.space))
      (λ e. absurd (still 0 0 r.task.space (ap (λ (n : ℕ). onward (stream forms.Fby) n r.task.space) e) (omega arith)))
      (λ u e. absurd (still 1 u r.task.space (ap (λ (n : ℕ). onward (stream forms.Fby) n r.task.space) e) (omega arith)))

  sby_fits : IsStill forms.Sby r → StartFits forms.Sby r (start_of forms.Sby (place_of r))
  sby_fits still =
      of_each (Fits forms.Sby r) r.task.space (step.Part (part_at 0 r.task.time 0)) (λ s. step.Part (part_at 1 r.task.time s))
      (λ e. absurd (still 0 r.task.time 0 (ap (λ (n : ℕ). onward (stream forms.Sby) r.task.time n) e) (omega arith)))
      (λ s e. absurd (still 1 r.task.time s (ap (λ (n : ℕ). onward (stream forms.Sby) r.task.time n) e) (omega arith)))

  pub start_fits : (f : Form) → IsStill f r → StartFits f r (start_of f (place_of r))
  start_fits forms.If still = if_fits
  start_fits forms.And still = and_fits
  start_fits forms.Or still = or_fits
  start_fits forms.First still = absurd (still 0 0 r.task.space refl (omega arith))
  start_fits forms.Next still = next_fits still
  start_fits forms.Fby still = fby_fits still
  start_fits forms.Whenever still = whenever_fits
  start_fits forms.Asa still = asa_fits
  start_fits forms.Upon still = upon_fits
  start_fits forms.Initial still = absurd (still 0 r.task.time 0 refl (omega arith))
  start_fits forms.Succ still = succ_fits still
  start_fits forms.Sby still = sby_fits still
  start_fits f still = record { look = refl; few = omega arith; after = target_fits f (λ v. refl) refl }
