-- The body of a reference that may be asked for: it may be where a key was touched. Where it is a name whose value is held, that value is put and
-- given; where it isn't held, the new row asks for it.
use Rattle.lucid_demand.proofs.Common.{ℕ, arith, inl, inr, List, [], ◌∷◌, Option, None, refl, sym, ap, ◌∙◌, subst, IsTrue, IsSome, Value, plain, Elements, Key, KeepsKnown, Task, TaskRow, Stored, IsTouched, value_at, World, PlainTask, DatonAt, plain_task, plain_key, plain_rows, RefersTo, EngineView, known_elements, holding, MayHave, Demand, Remembers, Context, answers_over, work_over, Evaluating, cost, IsFor, MayAskFor, MayRefer, AsksIn, FindsAim, IsTurned, DemandFault, NoMemory, IsReference, node_of, equations_of, context_of, at_it, aim_of_task, plain_aim, IsAim, space_of}
use Rattle.std.proofs.Common.{◌≡◌, ◌≢◌, ◌<◌, Some}
use Rattle.std.specs.Prelude.{IfSome, Result, Ok, Err, option_map}
use Rattle.lucid_tasks.specs.declared.Part.{Part}
use Rattle.lucid_tasks.specs.Rows as rows
use Rattle.lucid_equations.specs.Nodes.{reference, refer}
use Rattle.lucid_equations.specs.Datons.{node_aim, reference_aim}
use Rattle.lucid_demand_steps.specs.Demands.{table_of, Answers}
use Rattle.lucid_demand_steps.specs.Changes.{PutsOrLoses}
use Rattle.lucid_demand_steps.specs.declared.aim.Aim.{Aim}
use Rattle.lucid_demand_steps.proofs.Standing.{standing-answers}
use Rattle.lucid_demand_steps.proofs.Answering.{held-answers}
use Rattle.lucid_demand_steps.proofs.FoundAims.{aim_refers}
use Rattle.lucid_demand_steps.proofs.Putting.{remembered-is_put}
use Rattle.lucid_demand_steps.proofs.Storing.{AfterPut, after_put}
use Rattle.lucid_demand.specs.Asking.{SetsPart}
use Rattle.lucid_demand.specs.Naming.{IsNamedAim, MayHaveRow, MayAskBody, MayGiveBody}
use Rattle.lucid_store.proofs.CallerLemmas.{absent_touched, value_at-touched}
use Rattle.lucid_demand.proofs.AskedReferences.{LooksUp}
use Rattle.lucid_demand.proofs.MayAsk.{reference_may_be_asked}
use Rattle.lucid_demand.proofs.SettledRows.{on_going}
use Rattle.lucid_demand.proofs.TouchedKeys.{found_is_held}
use Rattle.lucid_demand.proofs.Turning.{answers_turned, within_turn}
use Rattle.lucid_demand.proofs.AskedParts.{may_ask_touched, may_ask_turned, given_turned, asked_row, asked_refused, asked_from, given_sets, asked_sets, only_set, idle_seen}

-- ---- where the store is another

-- a row may be made where a key was touched
pub row_touched : (d : Demand) (e : Evaluating) (w : World) (part : Option Part) (x y : Task) (key : Option Key) → MayHaveRow d e w part x y key
    → (stored : Stored) (k : Key) → IsTouched e.engine.stored stored k
    → MayHaveRow d (record { engine = record e.engine { stored = stored }; rows = e.rows }) w part x y key
row_touched d e w part x y key m stored k touched = record {
  least = m.least;
  may = may_ask_touched d e w part x m.least m.may stored k touched;
  stands = m.stands;
  still = m.still;
  lower = m.lower;
  tag = m.tag;
  key_tag = m.key_tag;
  wanted = m.wanted;
  remembers = m.remembers;
}

pub body_looked : (d : Demand) (old new : Evaluating) (w : World) (part : Option Part) (x y : Task) (key k : Key) (found : Option Value) → LooksUp old new k found
    → MayAskBody d old w part x y key → MayAskBody d new w part x y key
body_looked d old new w part x y key k found l m = subst (λ z. MayAskBody d z w part x y key) (sym l.only)
    (row_touched d old w part x y (Some key) m new.engine.stored k l.touched)

pub looked_cost : (d : Demand) (old new : Evaluating) (k : Key) (found : Option Value) → LooksUp old new k found → cost d new ≡ cost d old
looked_cost d old new k found l = ap (cost d) l.only

-- ---- the value of a name answers a body that is the name

module _ (d : Demand) (old new : Evaluating) (w : World) (part : Option Part) (x y : Task) (key : Key) (v : Value) (m : MayAskBody d old w part x y key)
    (a : Aim) (named : IsNamedAim old y a) (l : LooksUp old new a.key (Some v)) where
  same_table : old.engine.table ≡ table_of d
  same_table = m.may.owns.since.goes_on.table

  there : IsAim (table_of d) old.engine.known (space_of y.tag) a
  there = subst (λ T. IsAim T old.engine.known (space_of y.tag) a) same_table named.there

  leads : plain_aim (table_of d) old.engine.known (Some a) ≡ aim_of_task (table_of d) (plain_task old.engine.known y)
  leads = subst (λ T. plain_aim T old.engine.known (Some a) ≡ aim_of_task T (plain_task old.engine.known y)) same_table named.leads

  abbrev daton : DatonAt
  daton = plain_key old.engine.known a.key

  refers : RefersTo (table_of d) (plain_task old.engine.known y) daton
  refers = aim_refers (table_of d) old.engine.known (plain_task old.engine.known y) a leads there

  abbrev after_look : Evaluating
  after_look = record old { engine = record old.engine { stored = new.engine.stored } }

  body_there : MayAskBody d after_look w part x y key
  body_there = row_touched d old w part x y (Some key) m new.engine.stored a.key l.touched

  held : holding after_look.engine daton.0 daton.1 ≡ Some (plain v)
  held = found_is_held d old.engine w new.engine.stored a.key m.may.owns l.touched (Some v) there.key_known l.value

  not_emptied : IsTrue d.first.empties → ⊥
  not_emptied empties = let both : None ≡ Some (plain v) = sym (body_there.may.nothing empties daton.0 daton.1) ∙ held in absurd (cc)

  pub named_may_be_given : MayGiveBody d new w part x y key v
  named_may_be_given = subst (λ z. MayGiveBody d z w part x y key v) (sym l.only) (record {
    row = body_there;
    answers = λ b z.
        let stock = body_there.may.owns.stock.stock b z in
        held-answers d b (holding after_look.engine) after_look.engine.stored.lost (plain_task old.engine.known y) daton (plain v) refers held not_emptied
        stock.right stock.closed;
  })

-- ---- the task has a row, or there is no memory for one

-- the daton of a key, if there is one, is the one that is remembered
its_daton : (d : Demand) (b : Elements) (known : List Context) (y : PlainTask) (key : Option Key) → IfSome key (λ k. Remembers d b y (plain_key known k))
    → (q : DatonAt) → option_map (plain_key known) key ≡ Some q → Remembers d b y q
its_daton d b known y None h q e = absurd (cc)
its_daton d b known y (Some k) h q e = subst (λ z. Remembers d b y z) (let same : plain_key known k ≡ q = cc in same) h

-- What is so where the engine is seen so.
module _ (o old : Evaluating) (view : o ≡ old) (d : Demand) (w : World) (part : Option Part) (x y : Task) (key : Option Key)
    (may : MayHaveRow d old w part x y key) where
  here : MayHaveRow d o w part x y key
  here = subst (λ z. MayHaveRow d z w part x y key) (sym view) may

  pub row_refused : (rs : List (Option TaskRow)) (res : Result (Option Value) DemandFault) → res ≡ Err NoMemory
      → AsksIn d old (record { engine = o.engine; rows = rs }) w part res
  row_refused rs res is = subst (λ r. AsksIn d old (record { engine = o.engine; rows = rs }) w part r) (sym is)
      (asked_refused d old o w part x here.least here.may (ap (cost d) view) rs)

  pub row_asked : (rs : List (Option TaskRow)) (slot : ℕ) → rows.IsPast o.rows slot → rows.Asks o.rows rs part slot y key → (r : Option Value)
      → r ≡ None
      → AsksIn d old (record { engine = o.engine; rows = rs }) w part (Ok r)
  row_asked rs slot past asks r stays = subst (λ z. AsksIn d old (record { engine = o.engine; rows = rs }) w part (Ok z)) (sym stays)
      (asked_row d old o w part x here.least here.may (ap (cost d) view) rs slot y key here.stands here.still here.lower here.tag here.key_tag
      here.wanted (λ b z. its_daton d b o.engine.known (plain_task o.engine.known y) key (here.remembers b z)) past asks)

-- The row of a new task is set for the part, where the engine is seen so.
pub row_sets : (o old : Evaluating) → o ≡ old → (part : Option Part) (y : Task) (key : Option Key) → IfSome part (rows.IsIdlePart old.rows)
    → (rs : List (Option TaskRow)) (slot : ℕ) → rows.IsPast o.rows slot → rows.Asks o.rows rs part slot y key
    → IfSome part (SetsPart old (record { engine = o.engine; rows = rs }))
row_sets o old view part y key idle rs slot past asks =
    asked_sets old (record { engine = o.engine; rows = rs }) o.rows (ap (λ (e : Evaluating). e.rows) view)
    (only_set o.engine old.engine old.engine.known old.engine.stored old.engine.noted (ap (λ (e : Evaluating). e.engine) view))
    (subst (λ (e : Evaluating). KeepsKnown old.engine.known e.engine.known) (sym view) (record { known = λ tag h. h; same = λ tag h. refl }))
    part slot y key idle past asks

-- ---- the value is put under the reference's key, and given

module _ (d : Demand) (e : Evaluating) (w : World) (part : Option Part) (x y : Task) (key : Key) (v : Value) (g : MayGiveBody d e w part x y key v)
    (now : EngineView) (turned : IsTurned e.engine now) where
  abbrev its : PlainTask
  its = plain_task e.engine.known x

  abbrev n : ℕ
  n = g.row.least

  -- what the engine is after the policy's turn
  abbrev later : EngineView
  later = record e.engine { stored = now.stored; noted = now.noted }

  t : IsTurned e.engine later
  t = subst (λ z. IsTurned e.engine z) turned.only turned

  may_turned : MayAskFor d (record { engine = later; rows = e.rows }) w part x n
  may_turned = may_ask_turned d e w part x n g.row.may now turned

  -- There was no memory for a copy of the value.
  pub named_refused : (rs : List (Option TaskRow)) (res : Result (Option Value) DemandFault) → res ≡ Err NoMemory
      → AsksIn d e (record { engine = now; rows = rs }) w part res
  named_refused rs res is = subst (λ r. AsksIn d e (record { engine = now; rows = rs }) w part r) (sym is)
      (subst (λ (z : EngineView). AsksIn d e (record { engine = z; rows = rs }) w part (Err NoMemory)) (sym turned.only)
      (asked_refused d e (record { engine = later; rows = e.rows }) w part x n may_turned refl rs))

  answers_body : (b : Elements) → MayHave later b → Answers d b (holding later) later.stored.lost (plain_task e.engine.known y) (plain v)
  answers_body b z = answers_turned d e.engine later w g.row.may.owns t b (plain_task e.engine.known y) (plain v) (g.answers b z)

  -- The value is put.
  module _ (stored : Stored) (change : PutsOrLoses now.stored stored key v) where
    abbrev kept : EngineView
    kept = record later { stored = stored }

    put : AfterPut d later kept w (plain_key e.engine.known key)
    put =
        after_put d later stored w key v may_turned.owns (within_turn d e.engine later w g.row.may.owns t) g.row.key_tag
        (λ b z. remembered-is_put d b (holding later) later.stored.lost (plain_task e.engine.known y) (plain_key e.engine.known key) (plain v)
        (g.row.remembers b z) (answers_body b z)) change

    for_put : (p : Option Part) → IsFor d (record { engine = later; rows = e.rows }) w p its n → IsFor d (record { engine = kept; rows = e.rows }) w p its n
    for_put None f = f
    for_put (Some p) f = record {
      waits = record {
        going = record {
          work = work_over d (known_elements later) (holding later) (holding kept) later.stored.lost stored.lost (plain_rows e.engine.known e.rows) put.more
              f.waits.going.work;
          owns = put.owns;
        };
        known = f.waits.known;
      };
      parent = f.parent;
      there = f.there;
      free = f.free;
      few = f.few;
      task = f.task;
      is_part = f.is_part;
      stands = f.stands;
      least_rank = f.least_rank;
    }

    -- It answers the reference, whose daton is held now, or was lost.
    answers_reference : (b : Elements) → MayHave kept b → Answers d b (holding kept) kept.stored.lost its (plain v)
    answers_reference b z =
        standing-answers d b (holding kept) stored.lost (plain_key e.engine.known key ∷ []) (plain_task e.engine.known y) its (plain v) g.row.stands
        (λ keeps none k is. elim is [
          | inl same ↦ subst (λ (q : DatonAt). IsSome (holding kept q.0 q.1)) (sym same) (put.there none)
          | inr none_other ↦ absurd none_other
        ])
        (answers_over d (holding later) (holding kept) later.stored.lost stored.lost put.more b (plain_task e.engine.known y) (plain v) (answers_body b z))

    -- It is given, and the policy has its turn.
    pub named_given : (rs : List (Option TaskRow)) → rows.Gives e.rows rs part v → (new : Evaluating)
        → IsTurned (record now { stored = stored }) new.engine → new.rows ≡ rs → (o : Option Value) → o ≡ rows.returned part v
        → AsksIn d e new w part (Ok o)
    named_given rs gives new again same o told = subst (λ r. AsksIn d e new w part (Ok r)) (sym told)
        (given_turned d e (record { engine = kept; rows = e.rows }) w part x n put.owns (for_put part may_turned.is_for) refl v answers_reference rs gives new
        (subst (λ (z : EngineView). IsTurned (record z { stored = stored }) new.engine) turned.only again) same)

-- ---- the new row's own first part is asked for

-- the row of a name may ask for it, as its first part
name_may_be_asked : (d : Demand) (e : Evaluating) (w : World) (part : Option Part) (x y : Task) (key : Key) → MayAskBody d e w part x y key
    → (rs : List (Option TaskRow)) (slot : ℕ) → rows.IsPast e.rows slot → rows.Asks e.rows rs part slot y (Some key)
    → IsReference (node_of e.engine.table (plain_task e.engine.known y))
    → MayRefer d (record { engine = e.engine; rows = rs }) w (Some (record { slot = slot; index = 0 })) y
name_may_be_asked d e w part x y key may rs slot past asks names =
    reference_may_be_asked d (record { engine = e.engine; rows = rs }) w may.may.demand asked.goes_on.0 asked.nothing (record { slot = slot; index = 0 })
    (rows.fresh y part (Some key)) (asks slot ∙ at_it slot slot (Some (rows.fresh y part (Some key))) _ refl) y refl
    (subst (λ T. IsReference (node_of T (plain_task e.engine.known y))) may.may.owns.since.goes_on.table names, refl, may.tag, refl)
  where
    asked : AsksIn d e (record { engine = e.engine; rows = rs }) w part (Ok None)
    asked = row_asked e e refl d w part x y (Some key) may rs slot past asks None refl

-- What is asked for within the new row is asked for with it.
pub asked_on : (d : Demand) (old mid new : Evaluating) (w : World) (part : Option Part) (sub : Part) (result : Result (Option Value) DemandFault)
    → AsksIn d old mid w part (Ok None) → AsksIn d mid new w (Some sub) result → AsksIn d old new w part result
asked_on d old mid new w part sub result a b = record {
  owns = b.owns;
  goes_on = on_going result _ _ (λ p. (p.0, less part a.goes_on.1 p.1)) b.goes_on;
  answers = b.answers;
  nothing = b.nothing;
  deep = b.deep;
  refused = b.refused;
}
  where
    less : (p : Option Part) → IfSome p (λ q. cost d mid < cost d old) → cost d new < cost d mid → IfSome p (λ q. cost d new < cost d old)
    less None l n = tt
    less (Some q) l n = omega (arith, l, n)

-- The body is a name, which was looked up and isn't held; then the engine is seen so.
module _ (d : Demand) (old looked o : Evaluating) (w : World) (part : Option Part) (x y : Task) (key : Key) (may : MayAskBody d old w part x y key) (a : Aim)
    (named : IsNamedAim old y a) (l : LooksUp old looked a.key None) (view : o ≡ looked) where
  body_looked_up : MayAskBody d o w part x y key
  body_looked_up = subst (λ z. MayAskBody d z w part x y key) (sym view) (body_looked d old looked w part x y key a.key None l may)

  is_named : IsReference (node_of o.engine.table (plain_task o.engine.known y))
  is_named = subst (λ (z : Evaluating). IsReference (node_of z.engine.table (plain_task z.engine.known y))) (sym (view ∙ l.only)) named.reference

  absent : value_at o.engine.stored a.key ≡ None
  absent = subst (λ (z : Evaluating). value_at z.engine.stored a.key ≡ None) (sym view)
      (value_at-touched old.engine.stored looked.engine.stored a.key l.touched a.key ∙ sym l.value)

  -- It has a row, which asks for the name's own body.
  pub named_asked : (rs : List (Option TaskRow)) (slot : ℕ) → rows.IsPast o.rows slot → rows.Asks o.rows rs part slot y (Some key)
      → (new : Evaluating) (result : Result (Option Value) DemandFault)
      → (MayRefer d (record { engine = o.engine; rows = rs }) w (Some (record { slot = slot; index = 0 })) y → value_at o.engine.stored a.key ≡ None
      → AsksIn d (record { engine = o.engine; rows = rs }) new w (Some (record { slot = slot; index = 0 })) result)
      → AsksIn d old new w part result
  named_asked rs slot past asks new result within =
      asked_from d old looked new w part result (looked_cost d old looked a.key None l)
      (asked_on d looked (record { engine = o.engine; rows = rs }) new w part (record { slot = slot; index = 0 }) result
      (row_asked o looked view d w part x y (Some key) (body_looked d old looked w part x y key a.key None l may) rs slot past asks None refl)
      (within (name_may_be_asked d o w part x y key body_looked_up rs slot past asks is_named) absent))

-- what a name goes on with is its aim
pub named_found : (o old : Evaluating) → o ≡ old → (y : Task) (n l : ℕ) (r : Option Aim)
    → node_of o.engine.table (plain_task o.engine.known y) ≡ reference (refer n l)
    → plain_aim o.engine.table o.engine.known r ≡ reference_aim (equations_of o.engine.table) (refer n l) (context_of o.engine.known y.tag) y.time
    → IfSome r (IsAim o.engine.table o.engine.known (space_of y.tag)) → IfSome r (IsNamedAim old y)
named_found o old view y n l None is aim known = tt
named_found o old view y n l (Some a) is aim known = subst (λ z. IsNamedAim z y a) view (record {
  reference = subst (λ z. IsReference z) (sym is) tt;
  leads = aim ∙ sym (ap (λ z. node_aim (equations_of o.engine.table) z (context_of o.engine.known y.tag) y.time) is);
  there = known;
})

-- an aim that was found
abbrev pub found_aim : Aim → Result (Option Aim) DemandFault
found_aim a = Ok (Some a)

-- that of a name is found without a context more
pub self_finds : (e : Evaluating) (y : Task) (a : Aim) → IsNamedAim e y a → FindsAim e e y (found_aim a)
self_finds e y a named = record {
  aim = λ reference. named.leads;
  there = named.there;
  only = refl;
  entered = λ c k. inl k;
  keeps = record { known = λ tag k. k; same = λ tag k. refl };
  one_for_one = λ one. one;
}

-- it stays one after a look, whatever rows there are
pub named_looked : (old mid o : Evaluating) (y : Task) (a : Aim) → mid ≡ record old { engine = record old.engine { stored = mid.engine.stored } }
    → o ≡ mid → (rs : List (Option TaskRow)) → IsNamedAim old y a → IsNamedAim (record { engine = o.engine; rows = rs }) y a
named_looked old mid o y a only view rs named = subst (λ (z : Evaluating). IsNamedAim (record { engine = z.engine; rows = rs }) y a) (sym (view ∙ only))
    (record { reference = named.reference; leads = named.leads; there = named.there })

-- the first part of a new row is idle
pub new_part : (inner new : List (Option TaskRow)) (part : Option Part) (slot : ℕ) (y : Task) (key : Option Key) → rows.Asks inner new part slot y key
    → rows.IsIdlePart new (record { slot = slot; index = 0 })
new_part inner new part slot y key asks = record {
  row = subst (λ o. IsSome o) (sym at) refl;
  index = omega arith;
  idle = ap (option_map (rows.state_at 0)) at;
}
  where
    at : rows.row_at new slot ≡ Some (rows.fresh y part key)
    at = asks slot ∙ at_it slot slot (Some (rows.fresh y part key)) _ refl

-- a look for what isn't held leaves the store as it may be
pub looks_absent : (e : Evaluating) (key : Key) → value_at e.engine.stored key ≡ None → LooksUp e e key None
looks_absent e key none = record { value = sym none; touched = absent_touched e.engine.stored key none; only = refl }

-- ---- what is set of a part's row

pub looked_sets : (old mid new : Evaluating) (key : Key) (found : Option Value) (part : Option Part) → LooksUp old mid key found → IfSome part (SetsPart mid new)
    → IfSome part (SetsPart old new)
looked_sets old mid new key found None l s = tt
looked_sets old mid new key found (Some p) l s = record {
  state = s.state;
  row = s.row ∙ ap (λ (e : Evaluating). option_map (rows.with_part p.index s.state) (rows.row_at e.rows p.slot)) l.only;
  others = λ q there ne.
      s.others q (subst (λ (e : Evaluating). rows.IsRow e.rows q) (sym l.only) there) ne ∙ ap (λ (e : Evaluating). rows.row_at e.rows q) l.only;
  only = s.only ∙ ap (λ (e : Evaluating). record e.engine { known = new.engine.known; stored = new.engine.stored; noted = new.engine.noted }) l.only;
  keeps = subst (λ (e : Evaluating). KeepsKnown e.engine.known new.engine.known) l.only s.keeps;
}

-- What is asked for within a new row leaves what was set.
pub within_sets : (old mid new : Evaluating) (part : Option Part) (sub : Part) → IfSome part (rows.IsIdlePart old.rows) → rows.IsPast old.rows sub.slot
    → IfSome part (SetsPart old mid) → SetsPart mid new sub → IfSome part (SetsPart old new)
within_sets old mid new None sub idle past s t = tt
within_sets old mid new (Some p) sub idle past s t = record {
  state = s.state;
  row = t.others p.slot (subst (λ o. IsSome o) (sym s.row) (row_stays (rows.row_at old.rows p.slot) idle.row)) (below p.slot idle.row) ∙ s.row;
  others = λ q there ne. t.others q (subst (λ o. IsSome o) (sym (s.others q there ne)) there) (below q there) ∙ s.others q there ne;
  only = t.only ∙ ap (λ (e : EngineView). record e { known = new.engine.known; stored = new.engine.stored; noted = new.engine.noted }) s.only;
  keeps = record { known = λ tag h. t.keeps.known tag (s.keeps.known tag h); same = λ tag h. t.keeps.same tag (s.keeps.known tag h) ∙ s.keeps.same tag h };
}
  where
    below : (q : ℕ) → rows.IsRow old.rows q → q ≢ sub.slot
    below q there e = let low = past q there in absurd (omega (arith, low, e))

    row_stays : (o : Option TaskRow) → IsSome o → IsSome (option_map (rows.with_part p.index s.state) o)
    row_stays None h = absurd (cc)
    row_stays (Some r) h = refl

-- So it is where the name was looked up before, and the engine is seen so.
pub named_sets : (old looked o new : Evaluating) (key : Key) (found : Option Value) → LooksUp old looked key found → o ≡ looked → (part : Option Part) (y : Task)
    (k : Option Key) → IfSome part (rows.IsIdlePart old.rows) → (rs : List (Option TaskRow)) (slot : ℕ) → rows.IsPast o.rows slot
    → rows.Asks o.rows rs part slot y k → SetsPart (record { engine = o.engine; rows = rs }) new (record { slot = slot; index = 0 })
    → IfSome part (SetsPart old new)
named_sets old looked o new key found l view part y k idle rs slot past asks within =
    looked_sets old looked new key found part l
    (within_sets looked (record { engine = o.engine; rows = rs }) new part (record { slot = slot; index = 0 }) idle_looked
    (subst (λ (e : Evaluating). rows.IsPast e.rows slot) view past) (row_sets o looked view part y k idle_looked rs slot past asks) within)
  where
    idle_looked : IfSome part (rows.IsIdlePart looked.rows)
    idle_looked = idle_seen looked (record old { engine = record old.engine { stored = looked.engine.stored } }) part l.only idle

-- What is put and given sets the part.
pub put_sets : (old mid kept new : Evaluating) (part : Option Part) (v : Value) (rs : List (Option TaskRow)) → IsTurned old.engine mid.engine → mid.rows ≡ old.rows
    → kept.engine ≡ record mid.engine { stored = kept.engine.stored } → kept.rows ≡ mid.rows → rows.Gives kept.rows rs part v
    → IsTurned kept.engine new.engine → new.rows ≡ rs → IfSome part (SetsPart old new)
put_sets old mid kept new part v rs t same only same_kept gives again last =
    given_sets old new kept.rows (same_kept ∙ same)
    (only_set new.engine old.engine old.engine.known new.engine.stored new.engine.noted
    (again.only ∙ ap (λ (e : EngineView). record e { stored = new.engine.stored; noted = new.engine.noted }) (only ∙ ap (λ (e : EngineView). record e { stored = kept.engine.stored }) t.only)))
    (subst (λ k. KeepsKnown old.engine.known k) (sym (ap (λ (e : EngineView). e.known) again.only ∙ ap (λ (e : EngineView). e.known) only
    ∙ ap (λ (e : EngineView). e.known) t.only))
    (record { known = λ tag h. h; same = λ tag h. refl })) part v
    (subst (λ r. rows.Gives kept.rows r part v) (sym last) gives)
