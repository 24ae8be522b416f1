-- A run between two of its demands: what it began with, and what its engine has done by then. The subject is the streams of the table's root
-- side by side.
use Rattle.std.specs.Prelude.{◌≡◌, ℕ, ◌<◌, ◌≤◌, Bool, List, length, ◌⊎◌, IsTrue, IsSome, Some, ◌↔◌, slice_get}
use Rattle.lucid_value.specs.Lines.{end_of_line}
use Rattle.lucid_tree.specs.Members.{In}
use Rattle.lucid_tree.specs.Levels.{Elements}
use Rattle.lucid_tags.specs.Contexts.{Context, root}
use Rattle.lucid_ports.specs.World.{World, Contents}
use Rattle.lucid_ports.specs.Faults.{AsksNoneLate}
use Rattle.lucid_ports.specs.declared.run.Options.{Options}
use Rattle.lucid_inputs.specs.Streams.{all_bytes}
use Rattle.lucid_equations.specs.Datons.{Daton}
use Rattle.lucid_equations.specs.Visits.{consults_on_nodes, visited_contexts, IsNeeded}
use Rattle.lucid_equations.specs.Counts.{Points, contexts}
use Rattle.lucid_equations.specs.Rows.{equations_of}
use Rattle.lucid_equations.specs.declared.table.Table.{Table}
use Rattle.lucid_demand_steps.specs.Engine.{EngineView, IsSoundEngine, AreAskable, ReadsOnly, HoldsFew, places_of, holding}
use Rattle.lucid_session.specs.Subject.{Subject, columns_subject, table_columns}
use Rattle.lucid_session.specs.Runs.{PolicyView, RunView, HasElements, ReadsWithin}
use Rattle.lucid_ports.specs.Told.{Told}
use Rattle.lucid_session.specs.Figures.{Layout, side_by_side, Demands, HasMoreThan}

-- what a run begins with; columns are the spaces that stand side by side
pub record Start : Type 0 where
  pub table : Table
  pub columns : ℕ
  pub count : ℕ
  pub depth : ℕ
  pub most : ℕ
  pub policy : PolicyView
  pub places : List ℕ
  pub before : World
  pub out_before : Told

-- what the run of an engine begins with
abbrev pub start_of : Options → (columns : ℕ) → EngineView → World → Told → Start
start_of options n e w o = record {
  table = e.table;
  columns = n;
  count = options.count;
  depth = options.depth;
  most = e.most;
  policy = record { keeps = e.keeps; empties = e.empties; room = e.room };
  places = places_of e.streams;
  before = w;
  out_before = o;
}

-- the run from outside, as far as it has come
abbrev pub seen : Start → World → Told → RunView
seen z w o = record {
  count = z.count;
  depth = z.depth;
  policy = z.policy;
  names = z.table.inputs;
  places = z.places;
  most = z.most;
  before = z.before;
  after = w;
  out_before = z.out_before;
  out_after = o;
}

-- an engine with the table, the bound and the policy of the run
abbrev pub of_run : Start → EngineView → EngineView
of_run z e = record e { table = z.table; most = z.most; keeps = z.policy.keeps; empties = z.policy.empties; room = z.policy.room }

-- the subject of a run, and where it demands values
abbrev pub subject : Start → Subject
subject z = columns_subject (table_columns z.table z.columns)

abbrev pub layout : Start → Layout
layout z = side_by_side (table_columns z.table z.columns)

-- the points at which values are demanded before one
abbrev pub before : Start → (time space : ℕ) → Elements → (u r : ℕ) → Type 0
before z t s b u r = ((u < t) ⊎ ((u ≡ t) × (r < s))) × Demands (layout z) b u r

-- a number, 0 under a policy that empties, from which on this holds
pub record Added (empties : Bool) (P : ℕ → Type 0) : Type 0 where
  pub added : ℕ
  pub none : IsTrue empties → added ≡ 0
  pub holds : (d : ℕ) → added ≤ d → P d

-- these may be the elements of the run's inputs
abbrev pub Has : Start → Elements → Type 0
Has z b = HasElements (seen z z.before z.out_before) b

module _ (z : Start) (b : Elements) (D : (time space : ℕ) → Type 0) where
  -- at a point demanded the pair is consulted
  abbrev pub IsConsultedSoFar : (added : ℕ) → List ℕ × ℕ → Type 0
  IsConsultedSoFar d pair = (t : ℕ) × (s : ℕ) × D t s × In pair (consults_on_nodes (equations_of z.table) b z.depth d t s)

  -- of the input at a place no more is consumed than was, or through the end of an element that is consulted at a point demanded
  abbrev pub Draws : World → (number added : ℕ) → Type 0
  Draws w k d =
      (n : List ℕ) (q : ℕ) → (slice_get z.table.inputs k ≡ Some n) × (slice_get z.places k ≡ Some q)
      → (old new : Contents) → (z.before.place q).contents ≡ Some old → (w.place q).contents ≡ Some new
      → (length new.consumed ≤ length old.consumed) ⊎ ((j : ℕ) × IsConsultedSoFar d (n, j) × (length new.consumed ≤ end_of_line (all_bytes old) j))

  -- the context is entered at a point demanded
  abbrev pub IsEntered : (added : ℕ) → Context → Type 0
  IsEntered d c = (t : ℕ) × (s : ℕ) × D t s × In c (visited_contexts (equations_of z.table) b z.depth d t s)

  -- the daton at a space is needed at a point demanded
  abbrev pub IsNeededSoFar : Daton × ℕ → Type 0
  IsNeededSoFar x = (t : ℕ) × (s : ℕ) × D t s × IsNeeded (equations_of z.table) b (equations_of z.table).root root t s x

  -- much is entered at points among which are all that were demanded
  abbrev pub MuchEntered : (added : ℕ) → Type 0
  MuchEntered d = (points : Points) → ((t s : ℕ) → D t s → In (t, s) points) → HasMoreThan 999999 (contexts (equations_of z.table) b z.depth d points)

  -- What was visited at the points demanded: what is consumed was consulted, what is known was entered, and the engine was cleared only
  -- where much was entered.
  pub record Visited (e : EngineView) (w : World) (cleared : ℕ) : Type 0 where
    pub drawn : Added z.policy.empties (λ d. (k : ℕ) → k < length z.table.inputs → Draws w k d)
    pub known : Added z.policy.empties (λ d. (c : Context) → In c e.known → (c ≡ root) ⊎ IsEntered d c)
    pub clearings : 0 < cleared → Added z.policy.empties MuchEntered

  -- Under a policy that keeps, and with nothing lost or cleared, exactly what is needed at the points demanded is held.
  abbrev pub Holds : EngineView → (cleared : ℕ) → Type 0
  Holds e c = IsTrue z.policy.keeps → e.stored.lost ≡ 0 → c ≡ 0 → (k : Daton) (s : ℕ) → IsSome (holding e k s) ↔ IsNeededSoFar (k, s)

  -- What the engine of a run has done, by the elements of the inputs.
  pub record SoFar (e : EngineView) (w : World) (cleared : ℕ) : Type 0 where
    pub visited : Visited e w cleared
    pub holds : Holds e cleared

-- the points so far, and one more
abbrev pub with_point : (D : (time space : ℕ) → Type 0) → (time space : ℕ) → (u r : ℕ) → Type 0
with_point D t s u r = D u r ⊎ ((u ≡ t) × (r ≡ s))

-- The engine of a run between two demands: D are the points demanded so far, by the elements of the inputs.
pub record Standing (z : Start) (D : Elements → (time space : ℕ) → Type 0) (e : EngineView) (w : World) (cleared : ℕ) : Type 0 where
  pub is : e ≡ of_run z e
  pub sound : IsSoundEngine e
  pub askable : AreAskable e.streams w
  pub places : places_of e.streams ≡ z.places
  pub reads_only : ReadsOnly z.places z.before w
  pub within : ReadsWithin (seen z w z.out_before)
  pub few_held : HoldsFew z.policy.room e.stored
  pub no_read_failed : w.faults ≡ z.before.faults
  pub late : AsksNoneLate z.before w
  pub so_far : (b : Elements) → Has z b → SoFar z b (D b) e w cleared
