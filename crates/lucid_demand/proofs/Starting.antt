-- A demand begins: the policy has its turn, and the root may be asked for.
use Rattle.lucid_demand.proofs.Common.{ℕ, [], Option, None, sym, ap, ◌∙◌, subst, Value, root, IsKnown, context_of, space_of, Task, World, plain_task, EngineView, IsSoundEngine, AreAskable, Demand, demand_of, StandsFor, IsWanted, IsDemand, Owns, stands-itself, engine_begins, Evaluating, CanAsk, MayAskNow, AsksIn, IsTurned, Begins, DemandFault}
use Rattle.std.proofs.Common.{◌≡◌, ◌<◌, length}
use Rattle.std.specs.Prelude.{Result, Ok, Err, Some}
use Rattle.lucid_tags.specs.Contexts.{context_at}
use Rattle.lucid_tags.specs.Known.{number_of}
use Rattle.lucid_tags.specs.declared.Tag.{Tag}
use Rattle.lucid_demand_steps.specs.Demands.{table_of}
use Rattle.lucid_demand_steps.proofs.NewRows.{root-is_wanted}
use Rattle.lucid_demand.proofs.Turning.{owns_turned, emptied_turn}

-- What asking for the root gave is how the demand begins.
pub asked_begins : (d : Demand) (old new : Evaluating) (w : World) (result : Result (Option Value) DemandFault) → IsDemand d → AsksIn d old new w None result
    → Begins d new w result
asked_begins d old new w (Ok None) is a = record {
  owns = a.owns;
  stands = record { demand = is; waits = a.goes_on.0 };
  answers = tt;
  deep = λ e. absurd (cc);
  refused = tt;
}
asked_begins d old new w (Ok (Some v)) is a = record { owns = a.owns; stands = tt; answers = a.answers; deep = λ e. absurd (cc); refused = tt }
asked_begins d old new w (Err f) is a = record { owns = a.owns; stands = tt; answers = tt; deep = a.deep; refused = a.refused }

-- The root's task is made of the empty context's tag, at a space.
module _ (old turned : Evaluating) (t : IsTurned old.engine turned.engine) (none : turned.rows ≡ []) (node : ℕ) (empty tag : Tag) (time space limit : ℕ)
    (is_root : node ≡ turned.engine.table.root)
    (empty_known : IsKnown turned.engine.known empty) (is_empty : context_of turned.engine.known empty ≡ root) (number : number_of tag ≡ number_of empty)
    (at_space : space_of tag ≡ space)
    (w : World) (sound : IsSoundEngine old.engine) (ask : AreAskable old.engine.streams w) where
  abbrev d : Demand
  d = demand_of old.engine w time space limit

  abbrev first : Task
  first = record { node = node; tag = tag; time = time; depth = limit }

  begins : IsDemand d × Owns d old.engine w
  begins = engine_begins old.engine w time space limit sound ask

  is_first : plain_task turned.engine.known first ≡ d.root
  is_first = λ i. record {
    node = (is_root ∙ ap (λ (e : EngineView). e.table.root) t.only) i;
    context = (ap (context_at turned.engine.known) number ∙ is_empty) i;
    time = time;
    space = at_space i;
    limit = limit;
  }

  pub root_may_be_asked : MayAskNow d turned w None first
  root_may_be_asked = record {
    demand = begins.0;
    owns = owns_turned d old.engine turned.engine w begins.1 t;
    nothing = (emptied_turn d old.engine turned.engine w begins.1 t).nothing;
    wanted = λ b m. subst (λ x. IsWanted d b x) (sym is_first) (root-is_wanted d b begins.0);
    tag = subst (λ n. n < length turned.engine.known) (sym number) empty_known;
    is_for = (none, subst (λ x. StandsFor (table_of d) [] x d.root) (sym is_first) (stands-itself (table_of d) d.root));
  }

  -- What asking for it gave is how the demand begins.
  pub root_begins : (view : Evaluating) → view ≡ turned → (new : Evaluating) (result : Result (Option Value) DemandFault)
      → (MayAskNow d view w None first → AsksIn d view new w None result) → Begins d new w result
  root_begins view same new result asks =
      asked_begins d view new w result begins.0 (asks (subst (λ e. MayAskNow d e w None first) (sym same) root_may_be_asked))

-- The root can be asked for.
pub root_can_be_asked : (o turned : Evaluating) (view : o ≡ turned) (node : ℕ) (empty tag : Tag) (time limit : ℕ) → node < length o.engine.table.nodes
    → IsKnown o.engine.known empty → number_of tag ≡ number_of empty
    → CanAsk turned None (record { node = node; tag = tag; time = time; depth = limit })
root_can_be_asked o turned view node empty tag time limit there known number =
    subst (λ e. CanAsk e None (record { node = node; tag = tag; time = time; depth = limit })) view
    (record { part_idle = tt; there = there; known = subst (λ n. n < length o.engine.known) (sym number) known })
