-- Why a ready row's decisions are justified that take a step of its form.
use Rattle.lucid_demand_steps.proofs.DecidingCommon.{ℕ, List, [], ◌∷◌, Option, None, refl, sym, ap, ◌∙◌, subst, inl, arith, option_and_then, get_or, slice_get-get_or, none-some, Value, PlainValue, plain, Context, at_start, Plan, gives, Task, TaskRow, got_of, Table, PlainRow, value_of_part, plain_row, part_number, part_by_look, LookHas, LookOn, Refuse, Justified}
use Rattle.std.proofs.Common.{◌≡◌, ◌<◌, Some, length}
use Rattle.std.specs.Prelude.{Bool, option_map}
use Rattle.lucid_tree.specs.declared.form.Form.{Form}
use Rattle.lucid_tree.specs.Forms.{part_count}
use Rattle.lucid_tree.specs.Tree.{stream}
use Rattle.lucid_tree.specs.Rows.{look, single, nothing, only_truth}
use Rattle.lucid_tree.specs.Rests.{and_then, rest_at}
use Rattle.lucid_tree.proofs.Ways.{leads-maps}
use Rattle.lucid_equations.specs.declared.answer.Answer.{Answer}
use Rattle.lucid_equations.specs.declared.step.Place.{Place}
use Rattle.lucid_equations.specs.declared.step.PartAt.{PartAt}
use Rattle.lucid_equations.specs.declared.step.Given.{Given}
use Rattle.lucid_equations.specs.declared.step.Given.TheVariants.{Truth, End, Fault}
use Rattle.lucid_equations.specs.declared.step.Step.{Step}
use Rattle.lucid_equations.specs.declared.step.Step.TheVariants as step
use Rattle.lucid_equations.specs.declared.step.Start.{Start}
use Rattle.lucid_equations.specs.declared.step.Start.TheVariants as start
use Rattle.lucid_equations.specs.Steps.{answer_of, judged, given_value, start_of, step_after, step_plan, start_plan, least_of}
use Rattle.lucid_equations.proofs.Told.{truth_told}
use Rattle.lucid_equations.proofs.Plans.{steps_are_of_plans}
use Rattle.lucid_demand_steps.specs.Parts.{moved_by}
use Rattle.lucid_demand_steps.specs.Decisions.{RowHas, ComesTo}
use Rattle.lucid_demand_steps.specs.declared.decision.Decision.{Decision}
use Rattle.lucid_demand_steps.specs.declared.decision.Decision.TheVariants.{Part}
use Rattle.lucid_demand_steps.specs.Taken.{place_of, parts_at, Leads, IsLook, MayTake, IsFormRow, IsAskFor, settled}
use Rattle.lucid_demand_steps.proofs.FormNodes.{number_of_part}
use Rattle.lucid_demand_steps.proofs.Got.{value_is_got, none_is_idle}
use Rattle.lucid_demand_steps.proofs.Starting.{StartFits, StartsRight, IsStill, start_fits}

module _ (T : Table) (known : List Context) (forest : List (Option TaskRow)) (slot : ℕ) (task : Task) (its : TaskRow) (f : Form)
    (h : IsFormRow T known forest slot task its f) where
  abbrev r : PlainRow
  r = plain_row known its

  -- the row's own task
  own : IsFormRow T known forest slot its.task its f
  own = subst (λ x. IsFormRow T known forest slot x its f) (sym h.ready.is_task) h

  part_is : (i : ℕ) → i < part_count f → part_number T its.task.node i ≡ Some (get_or (parts_at T its.task.node) i 0)
  part_is i low = number_of_part T its.task.node i ∙ slice_get-get_or (parts_at T its.task.node) i 0 (omega (arith, low, own.count))

  -- what is got of a part is its value
  got_none : (i : ℕ) → got_of forest (record { slot = slot; index = i }) ≡ None → value_of_part r i ≡ None
  got_none i none = value_is_got known forest slot its i own.ready.there ∙ ap (option_map plain) none

  got_some : (i : ℕ) (v : Value) → got_of forest (record { slot = slot; index = i }) ≡ Some v → value_of_part r i ≡ Some (plain v)
  got_some i v some = value_is_got known forest slot its i own.ready.there ∙ ap (option_map plain) some

  comes : (q : Plan) → Leads f r q → ComesTo T r q
  comes q way = record {
    form = stream f;
    nodes = own.nodes;
    is = own.form;
    along = leads-maps (RowHas (stream f) r) (LookHas T (stream f) r) (λ l v has. inl has)
        (rest_at (stream f) r.task.limit r.cursor.time r.cursor.count r.task.time r.task.space) q way;
  }

  -- on by the value of a part
  on_by : (x : PartAt) (least : ℕ) (k : PlainValue → Plan) (v : PlainValue) → IsLook f r x least → value_of_part r x.part ≡ Some v
      → Leads f r (look x.part x.time x.space least k) → Leads f r (k v)
  on_by x least k v l has way = and_then (v ∷ []) way (record { index = x.part; look = l; value = has }, tt)

  -- a look that stands next may be asked for
  asks : (x : PartAt) (least : ℕ) (k : PlainValue → Plan) → Leads f r (look x.part x.time x.space least k) → IsLook f r x least
      → x.part < length (parts_at T task.node)
      → x.part < 3 → got_of forest (record { slot = slot; index = x.part }) ≡ None → (d : Decision) → IsAskFor task (get_or (parts_at T task.node) x.part 0) x d
      → Justified T known r d
  unfolding comes
  asks x least k way l low few none d ask =
      let mine : IsAskFor its.task (get_or (parts_at T its.task.node) x.part 0) x d =
      subst (λ y. IsAskFor y (get_or (parts_at T y.node) x.part 0) x d) (sym h.ready.is_task) ask in
      subst (Justified T known r) (sym mine.is) (
        record {
          stands_next = record { part = x.part; time = x.time; space = x.space; least = least } ∷ [];
          go_on = single k;
          at = comes (look x.part x.time x.space least k) way;
          look = record { part = x.part; time = x.time; space = x.space; least = least };
          is = l;
          next = inl refl;
          free = none_is_idle known its x.part own.ready.ready (got_none x.part none);
          few = few;
        },
        part_by_look x.part own.form l
            (ap (option_map (λ n. record r.task { node = n; time = x.time; space = x.space })) (part_is x.part (omega (arith, low, h.count)))
            ∙ ap Some (sym (mine.moved known))),
        mine.known_tag known own.ready.known_tag,
      )

  -- what the row settles with by itself
  gives_own : (g : Given) → Leads f r (gives (given_value g)) → Justified T known r (settled g)
  gives_own (Truth holds) way = comes (gives (given_value (Truth holds))) way
  gives_own End way = comes (gives (given_value End)) way
  gives_own Fault way = comes (gives (given_value Fault)) way

  -- A step that is taken: by its part's value, or asking for it,
  pub has_part : (y : Step) (x : PartAt) → y ≡ step.Part x → MayTake f r y → x.part < 3 → (v : Value)
      → got_of forest (record { slot = slot; index = x.part }) ≡ Some v → Justified T known r (Part x.part)
  has_part y x e may few v some =
      let it : MayTake f r (step.Part x) = subst (MayTake f r) e may in
      let has : value_of_part r x.part ≡ Some (plain v) = got_some x.part v some in
      (few, (plain v, has, inl (comes (gives (plain v)) (on_by x 0 gives (plain v) it.fits has it.leads))))

  pub asks_part : (y : Step) (x : PartAt) → y ≡ step.Part x → MayTake f r y → x.part < length (parts_at T task.node) → x.part < 3
      → got_of forest (record { slot = slot; index = x.part }) ≡ None → (d : Decision) → IsAskFor task (get_or (parts_at T task.node) x.part 0) x d → Justified T known r d
  asks_part y x e may low few none d ask =
      let it : MayTake f r (step.Part x) = subst (MayTake f r) e may in asks x 0 gives it.leads it.fits low few none d ask

  pub judges_part : (y : Step) (x : PartAt) → y ≡ step.Judge x → MayTake f r y → (v : Value) → got_of forest (record { slot = slot; index = x.part }) ≡ Some v
      → Justified T known r (settled (judged (answer_of (plain v))))
  judges_part y x e may v some =
      let it : MayTake f r (step.Judge x) = subst (MayTake f r) e may in
      gives_own (judged (answer_of (plain v)))
      (subst (λ w. Leads f r (gives w)) (truth_told (plain v)) (on_by x 0 (λ w. gives (only_truth w)) (plain v) it.fits (got_some x.part v some) it.leads))

  pub asks_judged : (y : Step) (x : PartAt) → y ≡ step.Judge x → MayTake f r y → x.part < length (parts_at T task.node) → x.part < 3
      → got_of forest (record { slot = slot; index = x.part }) ≡ None → (d : Decision) → IsAskFor task (get_or (parts_at T task.node) x.part 0) x d → Justified T known r d
  asks_judged y x e may low few none d ask =
      let it : MayTake f r (step.Judge x) = subst (MayTake f r) e may in asks x 0 (λ w. gives (only_truth w)) it.leads it.fits low few none d ask

  -- by itself, going on, or with nothing.
  pub gives_it : (x : Step) (g : Given) → x ≡ step.Give g → MayTake f r x → Justified T known r (settled g)
  gives_it x g e may =
      let it : MayTake f r (step.Give g) = subst (MayTake f r) e may in gives_own g it.leads

  pub looks_on : (x : Step) (seen : Bool) → x ≡ step.On seen → MayTake f r x → Justified T known r (LookOn seen)
  looks_on x seen e may =
      let it : MayTake f r (step.On seen) = subst (MayTake f r) e may in record {
        form = stream f;
        nodes = own.nodes;
        is = own.form;
        search = it.fits.search;
        value = it.fits.value;
        before = it.fits.before;
        within = it.fits.within;
      }

  pub has_nothing : (x : Step) → x ≡ step.Nothing → MayTake f r x → Justified T known r Refuse
  has_nothing x e may =
      let it : MayTake f r step.Nothing = subst (MayTake f r) e may in inl (comes nothing it.leads)

  -- a form that a row has doesn't only move the point
  pub is_still : IsStill f r
  is_still i u s e low =
      none-some (record r.task { node = get_or (parts_at T its.task.node) i 0; time = u; space = s })
      (sym own.ready.still ∙ ap (moved_by T r.task) own.form
      ∙ ap (option_and_then {T = PartAt} (λ q. option_map (λ n. record r.task { node = n; time = q.time; space = q.space }) (part_number T its.task.node q.part))) e
      ∙ ap (option_map (λ n. record r.task { node = n; time = u; space = s })) (part_is i low))

  -- where the row's form begins
  first : (x : Start) → start_of f (place_of r) ≡ x → Leads f r (start_plan f (place_of r) x)
  first x e =
      let here : Leads f r (rest_at (stream f) r.task.limit r.cursor.time r.cursor.count r.task.time r.task.space) = at_start in
      subst (λ z. Leads f r (start_plan f (place_of r) z)) e (subst (Leads f r) (steps_are_of_plans f (place_of r)) here)

  first_fits : (x : Start) → start_of f (place_of r) ≡ x → StartFits f r x
  first_fits x e = subst (StartFits f r) e (start_fits r f is_still)

  module _ (p : Place) (at : p ≡ place_of r) where
    there : (x : Start) → start_of f p ≡ x → start_of f (place_of r) ≡ x
    there x e = ap (start_of f) (sym at) ∙ e

    -- The form's first step may be taken,
    pub begins : (x : Step) → start_of f p ≡ start.Step x → MayTake f r x
    begins x e = record { leads = first (start.Step x) (there (start.Step x) e); fits = first_fits (start.Step x) (there (start.Step x) e) }

    -- or that by the value of its look,
    pub goes_by : (l : PartAt) → start_of f p ≡ start.Look l → (v : Value) → got_of forest (record { slot = slot; index = l.part }) ≡ Some v
        → (a : Answer) → a ≡ answer_of (plain v) → (x : Step) → x ≡ step_after f p a → MayTake f r x
    goes_by l e v some a told x is =
        let right : StartsRight f r l = first_fits (start.Look l) (there (start.Look l) e) in
        let by_both : step_after f p a ≡ step_after f (place_of r) (answer_of (plain v)) = λ j. step_after f (at j) (told j) in
        let same : step_after f (place_of r) (answer_of (plain v)) ≡ x = sym (is ∙ by_both) in
        subst (MayTake f r) same
        (record {
          leads = on_by l (least_of f (place_of r)) (λ w. step_plan f (place_of r) (step_after f (place_of r) (answer_of w))) (plain v) right.look
              (got_some l.part v some) (first (start.Look l) (there (start.Look l) e));
          fits = right.after (plain v) (got_some l.part v some);
        })

    -- which may be asked for.
    pub asks_first : (l : PartAt) → start_of f p ≡ start.Look l → l.part < length (parts_at T task.node) → got_of forest (record { slot = slot; index = l.part }) ≡ None
        → (d : Decision) → IsAskFor task (get_or (parts_at T task.node) l.part 0) l d → Justified T known r d
    asks_first l e low none d ask =
        let right : StartsRight f r l = first_fits (start.Look l) (there (start.Look l) e) in
        asks l (least_of f (place_of r)) (λ w. step_plan f (place_of r) (step_after f (place_of r) (answer_of w)))
        (first (start.Look l) (there (start.Look l) e)) right.look low right.few none d ask
