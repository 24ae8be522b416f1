-- A run over an engine that nothing was demanded of.
use Rattle.std.specs.Prelude.{◌≡◌, ℕ, [], ◌∷◌, Result}
use Rattle.lucid_tree.specs.Levels.{Elements}
use Rattle.lucid_tags.specs.Contexts.{root}
use Rattle.lucid_store.specs.Entries.{empty_warehouse}
use Rattle.lucid_ports.specs.World.{World}
use Rattle.lucid_ports.specs.declared.run.Options.{Options}
use Rattle.lucid_ports.specs.declared.run.Summary.{Summary}
use Rattle.lucid_ports.specs.declared.run.RunFault.{RunFault}
use Rattle.lucid_equations.specs.declared.table.Table.{Table}
use Rattle.lucid_demand_steps.specs.Engine.{EngineView, IsSoundEngine, AreAskable, ReadsOnly, places_of}
use Rattle.lucid_session.specs.Subject.{Subject, columns_subject, table_columns}
use Rattle.lucid_session.specs.Runs.{RunView, HasElements, Ran, Causes}
use Rattle.lucid_ports.specs.Told.{Told}
use Rattle.lucid_session.specs.Figures.{Counted, columns_counted, Figures}

-- The engine holds nothing and knows the empty context alone, and its inputs may be asked.
pub record IsFresh (e : EngineView) (w : World) : Type 0 where
  pub sound : IsSoundEngine e
  pub known : e.known ≡ root ∷ []
  pub stored : e.stored ≡ empty_warehouse
  pub askable : AreAskable e.streams w

-- the run of an engine
abbrev pub engine_run : Options → EngineView → (before after : World) → (out_before out_after : Told) → RunView
engine_run options e w v o p = record {
  count = options.count;
  depth = options.depth;
  policy = record { keeps = e.keeps; empties = e.empties; room = e.room };
  names = e.table.inputs;
  places = places_of e.streams;
  most = e.most;
  before = w;
  after = v;
  out_before = o;
  out_after = p;
}

-- What a run over a subject promises.
pub record Promises {K E : Type 0} (S : Subject) (C : Counted K E) (r : RunView) (result : Result Summary RunFault) : Type 0 where
  -- Where the places tell their bytes, the lines are the subject's, and the figures are by exactly what they need.
  pub headline : (b : Elements) → HasElements r b → Ran S b r result
  pub figures : (b : Elements) → HasElements r b → Figures C b r result
  -- Whatever they tell, faults have their causes, and nothing but the streams' places is read.
  pub causes : Causes r result
  pub reads_only : ReadsOnly r.places r.before r.after

-- the same of a table's columns
abbrev pub PromisesColumns : Table → (columns : ℕ) → RunView → Result Summary RunFault → Type 0
PromisesColumns T n = Promises (columns_subject (table_columns T n)) (columns_counted T n)
