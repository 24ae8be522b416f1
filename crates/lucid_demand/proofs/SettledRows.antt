-- A ready row that settles takes a step: what it remembers is put, and its value is its parent's or answers the root.
use Rattle.lucid_demand.proofs.Common.{cases_lt, inl, inr, ℕ, ◌-◌, arith, List, Option, None, refl, sym, ap, ◌∙◌, subst, IsTrue, IsSome, option_and_then, Value, PlainValue, plain, Op, Elements, Context, IsKnown, Key, TaskRow, got_of, is_ready, returned, Stored, World, Rises, PlainRow, DatonAt, plain_task, plain_key, plain_row, plain_rows, value_of_part, node_of, IsReference, EngineView, known_elements, holding, MayHave, Demand, RowFacts, Owns, Waits, at_it, plain_got, plain_of_row, ready_after_take, answers_over, work_over, cost_of, Evaluating, MayStep, Stepped, cost, DemandIn, MayAct, MayGive, Applies, value_of, IsTaken, Settling, MaySettle, at_rows, argument_by, argument_at, DemandFault, ◌^◌}
use Rattle.std.proofs.Common.{◌≡◌, ◌⊎◌, ◌<◌, ◌≤◌, Some}
use Rattle.std.specs.Prelude.{IfSome, Result, Ok, Err, option_map}
use Rattle.lucid_tasks.specs.Rows as rows
use Rattle.lucid_tasks.specs.Rows.{row_at, parent_of, key_of}
use Rattle.lucid_equations.specs.Rows as table
use Rattle.lucid_demand_steps.specs.Demands.{table_of, Answers}
use Rattle.lucid_demand_steps.specs.Decisions.{GivesByPlan}
use Rattle.lucid_demand_steps.specs.Changes.{PutsOrLoses}
use Rattle.lucid_demand_steps.proofs.Listing.{same_elsewhere}
use Rattle.lucid_demand_steps.proofs.Changing.{settles_after_taking}
use Rattle.lucid_demand_steps.proofs.Putting.{remembered-is_put}
use Rattle.lucid_demand_steps.proofs.Giving.{plan_answers, reference_answers}
use Rattle.lucid_demand_steps.proofs.Storing.{AfterPut, after_put}
use Rattle.lucid_demand_steps.specs.declared.decision.Decision.TheVariants as decision
use Rattle.lucid_demand.specs.Evaluating.{OnGoingOn}
use Rattle.lucid_demand.specs.Acting.{IsKept}
use Rattle.lucid_demand.proofs.GoneRows.{row_goes}
use Rattle.lucid_demand.proofs.TakenParts.{values_alike}

-- nothing was taken
pub nothing_taken : (rs : List (Option TaskRow)) (slot : ℕ) → IsTrue (is_ready (row_at rs slot)) → IsTaken rs rs slot
nothing_taken rs slot ready = record { others = λ q n. refl; parent = refl; key = refl; ready = ready }

pub changed_row : (old new : List (Option TaskRow)) (slot : ℕ) (f : TaskRow → TaskRow) → rows.ChangesOnly old new slot f
    → row_at new slot ≡ option_map f (row_at old slot)
changed_row old new slot f changes = changes slot ∙ at_it slot slot (option_map f (row_at old slot)) (row_at old slot) refl

parent_stays : (i : ℕ) (o : Option TaskRow) → option_and_then (λ r. r.parent) (option_map (rows.taken i) o) ≡ option_and_then (λ r. r.parent) o
parent_stays i None = refl
parent_stays i (Some r) = refl

key_stays : (i : ℕ) (o : Option TaskRow) → option_and_then (λ r. r.key) (option_map (rows.taken i) o) ≡ option_and_then (λ r. r.key) o
key_stays i None = refl
key_stays i (Some r) = refl

-- one more part's value is taken
pub one_more_taken : (before old new : List (Option TaskRow)) (slot i : ℕ) → IsTaken before old slot → rows.ChangesOnly old new slot (rows.taken i)
    → IsTaken before new slot
one_more_taken before old new slot i t changes = record {
  others = λ q n. same_elsewhere old new slot (rows.taken i) changes q n ∙ t.others q n;
  parent = ap (λ o. option_and_then (λ r. r.parent) o) (changed_row old new slot (rows.taken i) changes) ∙ parent_stays i (row_at old slot) ∙ t.parent;
  key = ap (λ o. option_and_then (λ r. r.key) o) (changed_row old new slot (rows.taken i) changes) ∙ key_stays i (row_at old slot) ∙ t.key;
  ready = ready_after_take old new slot i changes ∙ t.ready;
}

-- What is true once the value of a row is kept: its task's answer is held under the key that the row remembers, or was lost.
record Kept (s : Settling) (now new : EngineView) (r : TaskRow) (v : Value) : Type 0 where
  waits : Waits s.demand new s.world s.before
  known : new.known ≡ now.known
  answers : (b : Elements) → MayHave new b → Answers s.demand b (holding new) new.stored.lost (plain_task new.known r.task) (plain v)
  there : IsTrue s.demand.first.keeps → new.stored.lost ≡ 0 → (k : DatonAt) → (plain_row new.known r).key ≡ Some k → IsSome (holding new k.0 k.1)

module _ (s : Settling) (now : Evaluating) (slot : ℕ) (v : Value) (m : MaySettle s now slot v) (r : TaskRow) (at : row_at s.before slot ≡ Some r) where
  -- the row remembers no key
  kept_without : r.key ≡ None → Kept s now.engine now.engine r v
  kept_without none = record {
    waits = m.waits;
    known = refl;
    answers = m.answers r at;
    there = λ keeps z k e. let f : None ≡ Some k = sym (ap (option_map (plain_key now.engine.known)) none) ∙ e in absurd (cc);
  }

  facts : (b : Elements) → MayHave now.engine b → RowFacts s.demand b (holding now.engine) now.engine.stored.lost (plain_row now.engine.known r)
  facts b e = m.waits.going.work.each slot (plain_row now.engine.known r) (plain_of_row now.engine.known s.before slot r at) b e

  -- it remembers one
  kept_under : (k : Key) → r.key ≡ Some k → (stored : Stored) → PutsOrLoses now.engine.stored stored k v
      → Kept s now.engine (record now.engine { stored = stored }) r v
  kept_under k has stored change = record {
    waits = record {
      going = record {
        work = work_over s.demand (known_elements now.engine) (holding now.engine) (holding later) now.engine.stored.lost stored.lost
            (plain_rows now.engine.known s.before) put.more m.waits.going.work;
        owns = put.owns;
      };
      known = m.waits.known;
    };
    known = refl;
    answers = λ b e.
        answers_over s.demand (holding now.engine) (holding later) now.engine.stored.lost stored.lost put.more b (plain_task now.engine.known r.task) (plain v)
        (m.answers r at b e);
    there = λ keeps z q e. subst (λ (x : DatonAt). IsSome (holding later x.0 x.1)) (same q e) (put.there z);
  }
    where
      later : EngineView
      later = record now.engine { stored = stored }

      key_is : (plain_row now.engine.known r).key ≡ Some (plain_key now.engine.known k)
      key_is = ap (option_map (plain_key now.engine.known)) has

      same : (q : DatonAt) → (plain_row now.engine.known r).key ≡ Some q → plain_key now.engine.known k ≡ q
      same q e = let f : Some (plain_key now.engine.known k) ≡ Some q = sym key_is ∙ e in cc

      known_tag : IsKnown now.engine.known k.tag
      known_tag = subst (λ o. IfSome o (λ x. IsKnown now.engine.known x.tag)) has ((m.waits.known slot r at).key_tag)

      put : AfterPut s.demand now.engine later s.world (plain_key now.engine.known k)
      put =
          after_put s.demand now.engine stored s.world k v m.waits.going.owns m.within known_tag
          (λ b e. remembered-is_put s.demand b (holding now.engine) now.engine.stored.lost (plain_task now.engine.known r.task) (plain_key now.engine.known k)
          (plain v)
          ((facts b e).remembers (plain_key now.engine.known k) key_is) (m.answers r at b e)) change

  kept : (new : EngineView) (o : Option Key) → r.key ≡ o → IsKept o now.engine new v → Kept s now.engine new r v
  kept new None none is = subst (λ z. Kept s now.engine z r v) (sym is) (kept_without none)
  kept new (Some k) has is = subst (λ z. Kept s now.engine z r v) (sym is.0) (kept_under k has new.stored is.1)

  -- the row goes, and its parent has the value, or it answers the root
  goes : (new : Evaluating) → Kept s now.engine new.engine r v → rows.Settles s.before new.rows slot v
      → Stepped s.demand (record { engine = now.engine; rows = s.before }) new s.world s.world (Ok (returned r.parent v))
  goes new k settles =
      row_goes s.demand (record { engine = now.engine; rows = s.before }) new s.world s.before slot r v at
      (record { waits = k.waits; ready = subst (λ o. IsTrue (is_ready o)) at m.ready; answers = k.answers; there = k.there }) settles
      (ap (λ c. cost_of s.demand c s.before) k.known)

-- the row that is ready is there
pub ready_is_there : (rs : List (Option TaskRow)) (slot : ℕ) → IsTrue (is_ready (row_at rs slot)) → (r : TaskRow) × (row_at rs slot ≡ Some r)
ready_is_there rs slot = go (row_at rs slot) refl
  where
    go : (o : Option TaskRow) → row_at rs slot ≡ o → IsTrue (is_ready o) → (r : TaskRow) × (row_at rs slot ≡ Some r)
    go None e i = absurd (cc)
    go (Some r) e i = (r, e)

-- A row settles: it takes a step.
pub settled : (s : Settling) (now new : Evaluating) (slot : ℕ) (v : Value) → MaySettle s now slot v → IsKept (key_of now.rows slot) now.engine new.engine v
    → rows.Settles now.rows new.rows slot v
    → Stepped s.demand (record { engine = now.engine; rows = s.before }) new s.world s.world (Ok (returned (parent_of now.rows slot) v))
settled s now new slot v m is settles =
    subst (λ p. Stepped s.demand (record { engine = now.engine; rows = s.before }) new s.world s.world (Ok (returned p v))) (sym parent_is)
    (goes s now slot v m row at new (kept s now slot v m row at new.engine (key_of now.rows slot) (sym key_is) is)
    (settles_after_taking s.before now.rows new.rows slot v m.taken.others m.taken.parent settles))
  where
    row : TaskRow
    row = (ready_is_there s.before slot m.ready).0

    at : row_at s.before slot ≡ Some row
    at = (ready_is_there s.before slot m.ready).1

    key_is : key_of now.rows slot ≡ row.key
    key_is = m.taken.key ∙ ap (λ o. option_and_then (λ r. r.key) o) at

    parent_is : parent_of now.rows slot ≡ row.parent
    parent_is = m.taken.parent ∙ ap (λ o. option_and_then (λ r. r.parent) o) at

-- A row may settle with what answers its task, whatever was taken of its parts,
may_settle : (i : DemandIn) (e new : Evaluating) (slot : ℕ) (v : Value) → MayStep i.demand e i.world slot
    → ((r : TaskRow) → row_at e.rows slot ≡ Some r → (b : Elements) → MayHave e.engine b
    → RowFacts i.demand b (holding e.engine) e.engine.stored.lost (plain_row e.engine.known r)
    → Answers i.demand b (holding e.engine) e.engine.stored.lost (plain_task e.engine.known r.task) (plain v))
    → new.engine ≡ e.engine → IsTaken e.rows new.rows slot → MaySettle (at_rows i e.rows) new slot v
may_settle i e new slot v step answers same taken =
    subst (λ (z : EngineView). MaySettle (at_rows i e.rows) (record { engine = z; rows = new.rows }) slot v) (sym same) (record {
      waits = step.waits;
      within = step.within;
      ready = step.ready;
      taken = taken;
      answers = λ r at b m. answers r at b m (step.waits.going.work.each slot (plain_row e.engine.known r) (plain_of_row e.engine.known e.rows slot r at) b m);
    })

-- as with the value that its form's plan gives.
pub gives_may_settle : (i : DemandIn) (e new : Evaluating) (slot : ℕ) (v : Value) → MayGive i.demand e i.world slot (plain v) → new.engine ≡ e.engine
    → IsTaken e.rows new.rows slot
    → MaySettle (at_rows i e.rows) new slot v
gives_may_settle i e new slot v may =
    may_settle i e new slot v may.step
    (λ r at b m facts. plan_answers i.demand b (holding e.engine) e.engine.stored.lost (plain_row e.engine.known r) may.step.demand facts (plain v)
    (may.gives r at))

-- the value of a part, of the row and of its plain row
pub part_value : (known : List Context) (rs : List (Option TaskRow)) (slot index : ℕ) (r : TaskRow) → row_at rs slot ≡ Some r
    → option_map plain (got_of rs (record { slot = slot; index = index })) ≡ value_of_part (plain_row known r) index
part_value known rs slot index r at = plain_got known rs slot index ∙ ap (λ o. option_and_then (λ p. value_of_part p index) o) (plain_of_row known rs slot r at)

-- The value of the part that a decision names is that of the row.
pub part_may_settle : (i : DemandIn) (e new : Evaluating) (slot index : ℕ) (v : Value) → MayAct i.demand e i.world slot (decision.Part index)
    → got_of e.rows (record { slot = slot; index = index }) ≡ Some v
    → new.engine ≡ e.engine → IsTaken e.rows new.rows slot → MaySettle (at_rows i e.rows) new slot v
part_may_settle i e new slot index v act is = may_settle i e new slot v act.step answers
  where
    has : (r : TaskRow) → row_at e.rows slot ≡ Some r → value_of_part (plain_row e.engine.known r) index ≡ Some (plain v)
    has r at = sym (part_value e.engine.known e.rows slot index r at) ∙ ap (option_map plain) is

    same : (o : Option PlainValue) (u w : PlainValue) → o ≡ Some u → o ≡ Some w → u ≡ w
    same o u w e f = let both : Some u ≡ Some w = sym e ∙ f in cc

    answers : (r : TaskRow) → row_at e.rows slot ≡ Some r → (b : Elements) → MayHave e.engine b
        → RowFacts i.demand b (holding e.engine) e.engine.stored.lost (plain_row e.engine.known r)
        → Answers i.demand b (holding e.engine) e.engine.stored.lost (plain_task e.engine.known r.task) (plain v)
    answers r at b m facts = elim j.2 [
      | inl gives ↦ plan_answers i.demand b (holding e.engine) e.engine.stored.lost row act.step.demand facts (plain v)
          (subst (λ u. GivesByPlan (table_of i.demand) row u) (same (value_of_part row index) j.0 (plain v) j.1 (has r at)) gives)
      | inr of ↦ reference_answers i.demand b (holding e.engine) e.engine.stored.lost row facts of.0 (plain v)
          (subst (λ k. value_of_part row k ≡ Some (plain v)) of.1 (has r at))
    ]
      where
        row : PlainRow
        row = plain_row e.engine.known r

        j : (u : PlainValue) × (value_of_part row index ≡ Some u)
            × (GivesByPlan (table_of i.demand) row u ⊎ (IsReference (node_of (table_of i.demand) row.task) × (index ≡ 0)))
        j = (act.justified r at).1

pub some_before : (o : Option Value) (u : PlainValue) → option_map plain o ≡ Some u → IsSome o
some_before None u h = absurd (cc)
some_before (Some x) u h = refl

-- the part that a decision names is one of three, and has a value
pub part_is_there : (d : Demand) (e : Evaluating) (w : World) (slot index : ℕ) → MayAct d e w slot (decision.Part index)
    → (index < 3) × IsSome (got_of e.rows (record { slot = slot; index = index }))
part_is_there d e w slot index act =
    let r = ready_is_there e.rows slot act.step.ready in
    let j = act.justified r.0 r.1 in
    (j.0, some_before (got_of e.rows (record { slot = slot; index = index })) j.1.0 (part_value e.engine.known e.rows slot index r.0 r.1 ∙ j.1.1))

-- the value of an argument, of the row and of its plain row
pub argument_value : (d : Demand) (e : Evaluating) (w : World) (slot : ℕ) → MayStep d e w slot → (r : TaskRow) → row_at e.rows slot ≡ Some r → (i n : ℕ)
    → argument_at (table_of d) (plain_row e.engine.known r) i n ≡ value_of e slot i n
argument_value d e w slot step r at i n =
    ap (λ T. argument_at T (plain_row e.engine.known r) i n) (sym step.waits.going.owns.since.goes_on.table)
    ∙ ap (argument_by e.engine.table (table.row_at e.engine.table n)) (sym (part_value e.engine.known e.rows slot i r at))

-- What an applied operator gives is given.
pub applied_gives : (d : Demand) (e : Evaluating) (w : World) (slot : ℕ) (op : Op) (args : List ℕ) (v : Value) → MayAct d e w slot (decision.Apply op args)
    → Applies e slot op args v
    → MayGive d e w slot (plain v)
applied_gives d e w slot op args v act is = record {
  step = act.step;
  gives = λ r at.
      let j = (act.justified r at).1 in
      let has = values_alike (argument_at (table_of d) (plain_row e.engine.known r)) (value_of e slot) (argument_value d e w slot act.step r at) args 0 j.0
      j.2 in
      subst (λ u. GivesByPlan (table_of d) (plain_row e.engine.known r) u) (sym (is j.0 j.1 has)) j.3;
}

-- A row may settle with what its form gives after its search was noted.
pub noted_may_settle : (i : DemandIn) (e new : Evaluating) (slot : ℕ) (v : Value) → MayGive i.demand e i.world slot (plain v) → Owns i.demand new.engine i.world
    → new.engine ≡ record e.engine { noted = new.engine.noted } → new.rows ≡ e.rows → MaySettle (at_rows i e.rows) new slot v
noted_may_settle i e new slot v may owns only same =
    subst (λ (z : EngineView). MaySettle (at_rows i e.rows) (record { engine = z; rows = new.rows }) slot v) (sym only) (record {
      waits = record {
        going = record { work = may.step.waits.going.work; owns = subst (λ z. Owns i.demand z i.world) only owns };
        known = may.step.waits.known;
      };
      within = may.step.within;
      ready = may.step.ready;
      taken = subst (λ z. IsTaken e.rows z slot) (sym same) (nothing_taken e.rows slot may.step.ready);
      answers = λ r at b m.
          plan_answers i.demand b (holding e.engine) e.engine.stored.lost (plain_row e.engine.known r) may.step.demand
          (may.step.waits.going.work.each slot (plain_row e.engine.known r) (plain_of_row e.engine.known e.rows slot r at) b m) (plain v) (may.gives r at);
    })

-- The same over what each call leaves: what is kept, and then the rows.
pub settled_in : (s : Settling) (old mid new : Evaluating) (inner : List (Option TaskRow)) (slot : ℕ) (v : Value) (result : Option Value)
    → MaySettle s old slot v
    → IsKept (key_of old.rows slot) old.engine mid.engine v → mid.rows ≡ old.rows → new.engine ≡ mid.engine → inner ≡ mid.rows
    → rows.Settles inner new.rows slot v
    → result ≡ returned (parent_of inner slot) v → Stepped s.demand (record { engine = old.engine; rows = s.before }) new s.world s.world (Ok result)
settled_in s old mid new inner slot v result m kept same engine rows_are settles is =
    subst (λ o. Stepped s.demand (record { engine = old.engine; rows = s.before }) new s.world s.world (Ok o))
    (sym (is ∙ ap (λ rs. returned (parent_of rs slot) v) inner_is))
    (settled s old new slot v m (subst (λ z. IsKept (key_of old.rows slot) old.engine z v) (sym engine) kept)
    (subst (λ rs. rows.Settles rs new.rows slot v) inner_is settles))
  where
    inner_is : inner ≡ old.rows
    inner_is = rows_are ∙ same

-- A step that settles, by what was taken and what the settling does.
pub settled_part : (i : DemandIn) (e mid new : Evaluating) (slot index : ℕ) (v : Value) (result : Result (Option Value) DemandFault) → mid.engine ≡ e.engine
    → rows.ChangesOnly e.rows mid.rows slot (rows.taken index) → got_of e.rows (record { slot = slot; index = index }) ≡ Some v
    → ((s : Settling) → MaySettle s mid slot v → Stepped s.demand (record { engine = mid.engine; rows = s.before }) new s.world s.world result)
    → MayAct i.demand e i.world slot (decision.Part index) → Stepped i.demand e new i.world i.world result
settled_part i e mid new slot index v result same changes is steps act =
    subst (λ (z : EngineView). Stepped i.demand (record { engine = z; rows = e.rows }) new i.world i.world result) same
    (steps (at_rows i e.rows) (part_may_settle i e mid slot index v act is same
    (one_more_taken e.rows e.rows mid.rows slot index (nothing_taken e.rows slot act.step.ready) changes)))

pub settled_applied : (i : DemandIn) (e mid new : Evaluating) (slot : ℕ) (op : Op) (args : List ℕ) (v : Value) (result : Result (Option Value) DemandFault)
    → mid.engine ≡ e.engine
    → IsTaken e.rows mid.rows slot → Applies e slot op args v
    → ((s : Settling) → MaySettle s mid slot v → Stepped s.demand (record { engine = mid.engine; rows = s.before }) new s.world s.world result)
    → MayAct i.demand e i.world slot (decision.Apply op args) → Stepped i.demand e new i.world i.world result
settled_applied i e mid new slot op args v result same taken is steps act =
    subst (λ (z : EngineView). Stepped i.demand (record { engine = z; rows = e.rows }) new i.world i.world result) same
    (steps (at_rows i e.rows) (gives_may_settle i e mid slot v (applied_gives i.demand e i.world slot op args v act is) same taken))

pub on_going : (r : Result (Option Value) DemandFault) (P Q : Type 0) → (P → Q) → OnGoingOn r P → OnGoingOn r Q
on_going (Ok None) P Q f p = f p
on_going (Ok (Some v)) P Q f p = tt
on_going (Err e) P Q f p = tt

-- a count of faults that rises from itself can't rise further, so it has risen from any that could
rises_since : (u v : ℕ) → Rises v v → Rises u v
rises_since u v rises few = by (cases_lt v (2 ^ 64 - 1))
  where
    by : (v < 2 ^ 64 - 1) ⊎ (2 ^ 64 - 1 ≤ v) → u < v
    by (inl lt) = let l = rises lt in absurd (omega (arith, l))
    by (inr le) = omega (arith, few, le)

-- A step from what costs as much is a step.
pub stepped_from : (d : Demand) (old mid new : Evaluating) (v w : World) (result : Result (Option Value) DemandFault) → cost d mid ≡ cost d old
    → Stepped d mid new w w result
    → Stepped d old new v w result
stepped_from d old mid new v w result same s = record {
  owns = s.owns;
  goes_on = on_going result _ _ (λ p. (p.0, subst (λ n. cost d new < n) same p.1)) s.goes_on;
  answers = s.answers;
  deep = s.deep;
  too_large = s.too_large;
  failed = λ e. rises_since v.faults w.faults (s.failed e);
}

-- What a form gives is settled after its search was noted.
pub settled_end : (i : DemandIn) (e mid new : Evaluating) (slot : ℕ) (v : Value) (result : Result (Option Value) DemandFault)
    → ((j : DemandIn) → MayStep j.demand e j.world slot → Owns j.demand mid.engine j.world) → mid.engine ≡ record e.engine { noted = mid.engine.noted }
    → mid.rows ≡ e.rows
    → ((s : Settling) → MaySettle s mid slot v → Stepped s.demand (record { engine = mid.engine; rows = s.before }) new s.world s.world result)
    → MayGive i.demand e i.world slot (plain v) → Stepped i.demand e new i.world i.world result
settled_end i e mid new slot v result owns only same steps may =
    stepped_from i.demand e (record { engine = mid.engine; rows = e.rows }) new i.world i.world result
    (ap (λ (z : EngineView). cost i.demand (record { engine = z; rows = e.rows })) only)
    (steps (at_rows i e.rows) (noted_may_settle i e mid slot v may (owns i may.step) only same))
