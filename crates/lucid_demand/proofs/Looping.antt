-- What a demand's loop leaves, by its last turn.
use Rattle.lucid_demand.proofs.Common.{ℕ, suc, Option, None, inl, inr, refl, sym, subst, ◌∙◌, arith, ⊤, Value, World, EngineView, Demand, demand_of, Evaluating, Stepped, cost, CountsReadFaults, LoopEnds, MayTurn, Begins, DemandFault, TooDeep, ReadFault}
use Rattle.std.proofs.Common.{◌≡◌, ◌<◌, ◌≤◌, Some, Result, Ok, Err}
use Rattle.lucid_ports.specs.Faults.{AsksNoneLate}
use Rattle.lucid_demand_steps.proofs.History.{rises_later}
use Rattle.lucid_demand.proofs.AskedParts.{not_too_large, not_failed}

-- the same fault in another refusal
again : (e f : DemandFault) → ◌≡◌ {A = Result Value DemandFault} (Err e) (Err f) → ◌≡◌ {A = Result (Option Value) DemandFault} (Err e) (Err f)
again e f same = cc

at_value : (e f : DemandFault) → ◌≡◌ {A = Result ⊤ DemandFault} (Err e) (Err f) → ◌≡◌ {A = Result Value DemandFault} (Err e) (Err f)
at_value e f same = cc

-- a turn that isn't refused counts no fault
pub uncounted : (u v w : World) → v.faults ≡ u.faults → (done : ⊤) → CountsReadFaults (Ok done) v w → w.faults ≡ u.faults
uncounted u v w same done (inl f) = absurd (cc)
uncounted u v w same done (inr f) = f ∙ same

-- what is left to do: as much as the rows can cost, and one turn more, until there is an answer
abbrev pub left : Option Value → ℕ → ℕ
left None cost = suc cost
left (Some v) cost = 0

module _ (first : EngineView) (before : World) (t s m : ℕ) where
  abbrev d : Demand
  d = demand_of first before t s m

  -- It can't begin.
  pub ends_at_once : (mid : Evaluating) (f : DemandFault) → Begins d mid before (Err f) → LoopEnds first mid.engine before before t s m (Err f)
  ends_at_once mid f b = record {
    owns = b.owns;
    answers = tt;
    deep = λ e. b.deep (again f TooDeep e);
    too_large = not_too_large f _ b.refused;
    failed = λ e. absurd (not_failed f b.refused (let same : f ≡ ReadFault = cc in same));
    counts = inr refl;
    late = λ good. refl;
  }

  -- There is an answer.
  pub ends_with : (mid : Evaluating) (w : World) (o : Option Value) (x : Value) → o ≡ Some x → w.faults ≡ before.faults → AsksNoneLate before w
      → Begins d mid w (Ok o) → LoopEnds first mid.engine before w t s m (Ok x)
  ends_with mid w None x has same late b = absurd (cc)
  ends_with mid w (Some y) x has same late b = subst (λ z. LoopEnds first mid.engine before w t s m (Ok z)) (let one : y ≡ x = cc in one)
      (record { owns = b.owns; answers = b.answers; deep = λ e. absurd (cc); too_large = tt; failed = λ e. absurd (cc); counts = inr same; late = late })

  -- A turn may be taken.
  pub may_turn : (mid : Evaluating) (w : World) (o : Option Value) → o ≡ None → Begins d mid w (Ok o) → MayTurn d mid w
  may_turn mid w None none b = b.stands
  may_turn mid w (Some x) none b = absurd (cc)

  -- It refused.
  pub ends_refused : (mid new : Evaluating) (v w : World) (e : DemandFault) → MayTurn d mid v → v.faults ≡ before.faults → v.faults ≤ w.faults
      → CountsReadFaults {T = ⊤} (Err e) v w → AsksNoneLate before w → Stepped d mid new v w (Err e) → LoopEnds first new.engine before w t s m (Err e)
  ends_refused mid new v w e may same more counts late s = record {
    owns = s.owns;
    answers = tt;
    deep = λ f. s.deep (again e TooDeep f);
    too_large = s.too_large;
    failed = λ f. rises_later before v w may.waits.going.owns.since.reads_only.faults more (s.failed (again e ReadFault f));
    counts = elim counts [ inl f ↦ inl (at_value e ReadFault f) | inr f ↦ inr (f ∙ same) ];
    late = late;
  }

  -- It went on, or gave the answer: less is left.
  pub goes_on : (mid new : Evaluating) (v w : World) (o : Option Value) → MayTurn d mid v → Stepped d mid new v w (Ok o) → Begins d new w (Ok o)
  goes_on mid new v w None may s = record {
    owns = s.owns;
    stands = record { demand = may.demand; waits = s.goes_on.0 };
    answers = tt;
    deep = λ e. absurd (cc);
    refused = tt;
  }
  goes_on mid new v w (Some x) may s = record { owns = s.owns; stands = tt; answers = s.answers; deep = λ e. absurd (cc); refused = tt }

  pub less_is_left : (mid new : Evaluating) (v w : World) (before_turn o : Option Value) → before_turn ≡ None → Stepped d mid new v w (Ok o)
      → left o (cost d new) < left before_turn (cost d mid)
  less_is_left mid new v w before_turn o none s = subst (λ z. left o (cost d new) < left z (cost d mid)) (sym none) (go o s)
    where
      go : (o : Option Value) → Stepped d mid new v w (Ok o) → left o (cost d new) < suc (cost d mid)
      go None s = omega (arith, s.goes_on.1)
      go (Some x) s = omega arith
