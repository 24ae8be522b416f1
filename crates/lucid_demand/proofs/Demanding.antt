-- What a demand promises, by what is true when its loop ends.
use Rattle.lucid_demand.proofs.Common.{ℕ, ap, ◌∙◌, Value, plain, Elements, World, equations_of, Table, HoldsRight, EngineView, IsSoundEngine, MayHave, holding, AreAskable, ReadsWithin, demand_of, stays, engine_begins, DemandFault, Demanded, LoopEnds}
use Rattle.std.proofs.Common.{◌≡◌, Some, Result, Ok, Err}
use Rattle.std.specs.Prelude.{IfOk}
use Rattle.lucid_equations.specs.Values.{eqval, eqhval}
use Rattle.lucid_demand_steps.specs.Stands.{given}
use Rattle.lucid_demand_steps.specs.Engine.{RootMeans, root_val, HoldsNeeded}
use Rattle.lucid_demand_steps.proofs.Places.{told_extends}
use Rattle.lucid_demand_steps.proofs.Ends.{engine_ends, engine_visits, kept_is_held, holds_what_is_needed, undefined}

if_ok : (r : Result Value DemandFault) (P Q : Value → Type 0) → IfOk r P → ((v : Value) → P v → Q v) → IfOk r Q
if_ok (Ok v) P Q h f = f v h
if_ok (Err e) P Q h f = tt

pub demanded : (old new : EngineView) (before after : World) (t s m : ℕ) (result : Result Value DemandFault) → IsSoundEngine old → AreAskable old.streams before
    → ReadsWithin new → LoopEnds old new before after t s m result → Demanded old new before after t s m result
demanded old new before after t s m result sound ask within l = record {
  value = if_ok result _ (λ v. (b : Elements) → MayHave new b → RootMeans new b t s (plain v)) l.answers
      (λ v a b may. let x = (a b may).means in (x.0, at_new b x.0 ∙ x.1));
  exact = λ empties. if_ok result _ (λ v. (b : Elements) → MayHave new b → root_val new b m t s ≡ Some (plain v)) l.answers
      (λ v a b may. at_new b m ∙ (a b may).exact empties);
  deep = λ e b may. at_new b m ∙ (undefined old before t s m b (right b may) (l.deep e b may)).0;
  kept = λ keeps e b may. ap (λ (T : Table). eqhval (equations_of T) (given b (holding old)) m t s) l.owns.since.goes_on.table
      ∙ (undefined old before t s m b (right b may) (l.deep e b may)).1 keeps;
  drawn = λ b may. (engine_visits old new before after t s m l.owns b may).1;
  too_large = l.too_large;
  failed = l.failed;
  counts = l.counts;
  late = l.late;
  within = within;
  visited = λ b may. (engine_visits old new before after t s m l.owns b may).0;
  few_held = l.owns.since.few;
  still_held = kept_is_held old new before after t s m l.owns;
  needed = λ keeps z. if_ok result _ (λ v. (b : Elements) → MayHave new b → HoldsNeeded old new b t s) l.answers
      (λ v a b may. holds_what_is_needed old new before after t s m (plain v) l.owns keeps z b may (a b may));
  sound = engine_ends old new before after t s m (engine_begins old before t s m sound ask).0 l.owns;
  fits = l.owns.stock.askable;
  told = told_extends new after l.owns.stock.askable;
  goes_on = l.owns.since.goes_on;
  reads_only = l.owns.since.reads_only;
}
  where
    at_new : (b : Elements) (n : ℕ) → root_val new b n t s ≡ root_val old b n t s
    at_new b n = ap (λ (T : Table). eqval (equations_of T) b n t s) l.owns.since.goes_on.table

    right : (b : Elements) → MayHave new b → HoldsRight (equations_of old.table) b (stays (demand_of old before t s m))
    right b may k r v e = let f = l.owns.stock.stock b may in f.right k r v (f.stays k r v e)
