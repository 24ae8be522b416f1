-- A policy's turn keeps what is true of a demand's loop, and leaves what a step asks for.
use Rattle.lucid_demand.proofs.Common.{ℕ, List, Option, None, sym, ap, ◌∙◌, subst, arith, IsTrue, IsSome, is_some, Value, PlainValue, plain, Elements, TaskRow, is_ready, Stored, World, PlainTask, DatonAt, plain_rows, EngineView, known_elements, holding, Demand, Owns, Waits, held_stays, answers_over, work_over, owns_drops, Evaluating, MayStep, Stepped, cost, MayTurn, IsTurned, DemandFault, lookup}
use Rattle.std.proofs.Common.{◌≡◌, Some}
use Rattle.std.specs.Prelude.{option_map, Result}
use Rattle.std.proofs.lemmas.List.{nil_from_length}
use Rattle.lucid_tasks.specs.Rows.{row_at}
use Rattle.lucid_store.specs.Entries.{count_of}
use Rattle.lucid_retire.specs.Turns.{HoldsAtMost}
use Rattle.lucid_demand_steps.specs.Held.{is_key_of}
use Rattle.lucid_demand_steps.specs.Engine.{HoldsFew}
use Rattle.lucid_demand_steps.specs.Demands.{Answers}
use Rattle.lucid_demand_steps.specs.Stock.{IsEmptied}
use Rattle.lucid_demand_steps.specs.Going.{WithinRoom}
use Rattle.lucid_demand.proofs.Beginning.{stepped_from_less}

-- at most as many as the policy leaves are within its room, and few
within_room : (r : Option ℕ) (w : Stored) → HoldsAtMost r w → WithinRoom r w
within_room None w h = tt
within_room (Some n) w h = h

few_within : (r : Option ℕ) (w : Stored) → WithinRoom r w → HoldsFew r w
few_within None w h = tt
few_within (Some n) w h = omega (arith, h)

module _ (d : Demand) (now later : EngineView) (w : World) (owns : Owns d now w) (t : IsTurned now later) where
  abbrev turned : EngineView
  turned = record now { stored = later.stored; noted = later.noted }

  keeps_now : IsTrue d.first.keeps → IsTrue now.keeps
  keeps_now k = owns.since.goes_on.keeps ∙ k

  empties_now : IsTrue d.first.empties → IsTrue now.empties
  empties_now e = owns.since.goes_on.empties ∙ e

  -- as many as the policy leaves are held,
  pub within_turn : WithinRoom d.first.room later.stored
  within_turn = subst (λ r. WithinRoom r later.stored) owns.since.goes_on.room (within_room now.room later.stored t.turn.limited)

  same : IsTrue d.first.keeps → (k : DatonAt) → holding turned k.0 k.1 ≡ holding now k.0 k.1
  same k = (held_stays now.known now.stored later.stored owns.contexts owns.keys (t.turn.kept (keeps_now k))).1

  -- what was needed and held is held, under a policy that keeps,
  over : IsTrue d.first.keeps → later.stored.lost ≡ 0 → (now.stored.lost ≡ 0) × ((k : DatonAt) → IsSome (holding now k.0 k.1) → IsSome (holding turned k.0 k.1))
  over k z = (let e = t.turn.lost in omega (arith, e, z), λ q i. ap is_some (same k q) ∙ i)

  owned : Owns d turned w
  owned =
      owns_drops d now w owns later.stored later.noted t.turn.drops (λ k. t.turn.kept (keeps_now k)) (let e = t.turn.lost in omega (arith, e)) t.noted
      (λ few. few_within d.first.room later.stored within_turn)

  pub owns_turned : Owns d later w
  owns_turned = subst (λ e. Owns d e w) (sym t.only) owned

  -- the rows wait on,
  pub waits_turned : (rs : List (Option TaskRow)) → Waits d now w rs → Waits d later w rs
  waits_turned rs waits = subst (λ e. Waits d e w rs) (sym t.only) (record {
    going = record {
      work = work_over d (known_elements now) (holding now) (holding turned) now.stored.lost later.stored.lost (plain_rows now.known rs) over
          waits.going.work;
      owns = owned;
    };
    known = waits.known;
  })

  -- what answers a task answers it,
  pub answers_turned : (b : Elements) (x : PlainTask) (v : PlainValue) → Answers d b (holding now) now.stored.lost x v
      → Answers d b (holding later) later.stored.lost x v
  answers_turned b x v a =
      subst (λ (e : EngineView). Answers d b (holding e) e.stored.lost x v) (sym t.only)
      (answers_over d (holding now) (holding turned) now.stored.lost later.stored.lost over b x v a)

  none_left : IsTrue d.first.empties → count_of later.stored ≡ 0
  none_left e = t.turn.emptied (empties_now e)

  -- and under a policy that empties nothing is held or noted.
  pub emptied_turn : IsEmptied d (holding later) later.noted
  emptied_turn = subst (λ (e : EngineView). IsEmptied d (holding e) later.noted) (sym t.only) (record {
    nothing = λ e k s. ap (λ es. option_map (λ x. plain x.value) (lookup (is_key_of now.known k s) es)) (nil_from_length later.stored.entries (none_left e));
    unnoted = λ e. t.unnoted (empties_now e);
  })

-- After the policy's turn a ready row may take its step.
pub turned_may_step : (d : Demand) (old mid : Evaluating) (w : World) (slot : ℕ) → MayTurn d old w → IsTurned old.engine mid.engine → mid.rows ≡ old.rows
    → IsTrue (is_ready (row_at mid.rows slot))
    → MayStep d mid w slot
turned_may_step d old mid w slot may t same ready = record {
  demand = may.demand;
  waits = subst (λ rs. Waits d mid.engine w rs) (sym same) (waits_turned d old.engine mid.engine w may.waits.going.owns t old.rows may.waits);
  emptied = emptied_turn d old.engine mid.engine w may.waits.going.owns t;
  within = within_turn d old.engine mid.engine w may.waits.going.owns t;
  ready = ready;
}

pub turned_cost : (d : Demand) (old mid : Evaluating) → IsTurned old.engine mid.engine → mid.rows ≡ old.rows → cost d mid ≡ cost d old
turned_cost d old mid t same = ap (λ (e : Evaluating). cost d e) (λ i. record { engine = t.only i; rows = same i })

-- What the row's step does is what the turn does.
pub turn_steps : (d : Demand) (old mid new : Evaluating) (v w : World) (slot : ℕ) (result : Result (Option Value) DemandFault) → MayTurn d old v
    → IsTurned old.engine mid.engine → mid.rows ≡ old.rows
    → IsTrue (is_ready (row_at mid.rows slot)) → (MayStep d mid v slot → Stepped d mid new v w result) → Stepped d old new v w result
turn_steps d old mid new v w slot result may t same ready steps =
    stepped_from_less d old mid new v w result (let e = turned_cost d old mid t same in omega (arith, e))
    (steps (turned_may_step d old mid v slot may t same ready))
