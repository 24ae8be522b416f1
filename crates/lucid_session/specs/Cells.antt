-- What stands after a demand of a run; and after the demands of a time: the cells of its columns, or how the run ends there.
use Rattle.std.specs.Prelude.{◌≡◌, ℕ, suc, ◌+◌, ◌<◌, ◌≤◌, ◌⊎◌, ◌↔◌, Bool, List, [], ◌∷◌, ◌++◌, length, None, Some, IsSome, IsTrue, Result, IfOk, IfErr, IsErrOf, Err, slice_get}
use Rattle.std.specs.Bool.{MatchBool}
use Rattle.lucid_value.specs.declared.Value.{Value}
use Rattle.lucid_value.specs.Plain.{PlainValue, eod}
use Rattle.lucid_value.specs.ValueText.{value_text}
use Rattle.lucid_value.specs.View.{plain}
use Rattle.lucid_tree.specs.Levels.{Elements, HoldsExactly}
use Rattle.lucid_tree.specs.Members.{In}
use Rattle.lucid_tags.specs.Contexts.{root}
use Rattle.lucid_store.specs.Entries.{cleared}
use Rattle.lucid_ports.specs.World.{World}
use Rattle.lucid_ports.specs.Faults.{Rises, AsksNoneLate, CountsNoFaultUnless}
use Rattle.lucid_ports.specs.declared.run.RunFault.{RunFault}
use Rattle.lucid_ports.specs.declared.run.RunFault.TheVariants as run
use Rattle.lucid_equations.specs.Values.{eqval, eqhval}
use Rattle.lucid_equations.specs.Counts.{Points, valued_datons}
use Rattle.lucid_equations.specs.Rows.{equations_of}
use Rattle.lucid_demand_steps.specs.Stands.{Holding}
use Rattle.lucid_demand_steps.specs.Engine.{EngineView, IsSoundEngine, AreAskable, ReadsOnly, HoldsFew, ConsultsOverlong, places_of}
use Rattle.lucid_demand.specs.Demanded as demand
use Rattle.lucid_demand_steps.specs.Faults as faults
use Rattle.lucid_demand_steps.specs.declared.fault.DemandFault.{DemandFault}
use Rattle.lucid_demand_steps.specs.declared.fault.DemandFault.TheVariants.{TooDeep, ReadFault}
use Rattle.lucid_session.specs.Subject.{OneStream, StreamMeans, table_stream_at, table_columns, HasEnded, IsOpen, AreCells, parted}
use Rattle.lucid_session.specs.Runs.{ReadsWithin}
use Rattle.lucid_session.specs.Figures.{table_counted, IsDefinedAt, Demands}
use Rattle.lucid_session.specs.Faults.{of_demand}
use Rattle.lucid_session.specs.Moments.{Start, Has, seen, of_run, Visited, Holds, with_point, Standing, layout, before}

-- What stands after the demand of a value at a point, by the elements of the inputs. Before it D were the points demanded.
pub record Found (z : Start) (b : Elements) (D : (time space : ℕ) → Type 0) (e : EngineView) (w : World) (cleared time space : ℕ) (result : Result Value DemandFault) : Type 0 where
  pub visited : Visited z b (with_point D time space) e w cleared
  pub holds : IfOk result (λ v. Holds z b (with_point D time space) e cleared)
  pub value : IfOk result (λ v. StreamMeans (table_stream_at z.table space) b time (plain v))
  pub exact : IsTrue z.policy.empties → IfOk result (λ v. eqval (equations_of z.table) b z.depth time space ≡ Some (plain v))
  pub deep : IsErrOf result TooDeep → eqval (equations_of z.table) b z.depth time space ≡ None
  pub kept : IsTrue z.policy.keeps → IsErrOf result TooDeep → e.stored.lost ≡ 0 → cleared ≡ 0
      → (points : Points) → ((t s : ℕ) → In (t, s) points ↔ D t s) → (m : ℕ) → IsDefinedAt (table_counted z.table) b m points
      → (held : Holding) → HoldsExactly (valued_datons (equations_of z.table) b m points) held
      → eqhval (equations_of z.table) (record { element = b; held = held }) z.depth time space ≡ None
  pub too_large : IfErr result (λ f. faults.OnTooLarge f (λ k. ConsultsOverlong (of_run z e) b w k z.depth time space))

-- What stands after that demand.
pub record Asked (z : Start) (D : Elements → (time space : ℕ) → Type 0) (e : EngineView) (w : World) (cleared time space : ℕ) (result : Result Value DemandFault) : Type 0 where
  pub is : e ≡ of_run z e
  pub sound : IsSoundEngine e
  pub askable : AreAskable e.streams w
  pub places : places_of e.streams ≡ z.places
  pub reads_only : ReadsOnly z.places z.before w
  pub within : ReadsWithin (seen z w z.out_before)
  pub few_held : HoldsFew z.policy.room e.stored
  pub failed : IsErrOf result ReadFault → Rises z.before.faults w.faults
  pub counts_no_fault : CountsNoFaultUnless (IsErrOf result ReadFault) z.before.faults w.faults
  pub late : AsksNoneLate z.before w
  pub too_large : IfErr result (λ f. faults.OnTooLarge f (λ k. k < length z.table.inputs))
  pub found : (b : Elements) → Has z b → Found z b (D b) e w cleared time space result

-- A demand of a time was refused, at a point where a value is demanded.
pub record IsRefusedAt (z : Start) (e : EngineView) (w : World) (time cleared : ℕ) (q : RunFault) : Type 0 where
  pub space : ℕ
  pub fault : DemandFault
  pub is : q ≡ of_demand time e.stored.lost cleared fault
  pub asked : Asked z (before z time space) e w cleared time space (Err fault)
  pub demanded : (b : Elements) → Has z b → Demands (layout z) b time space

-- There was no memory between two demands.
pub record LacksMemoryAt (z : Start) (e : EngineView) (w : World) (time cleared : ℕ) (q : RunFault) : Type 0 where
  pub space : ℕ
  pub is : q ≡ run.NoMemory
  pub standing : Standing z (before z time space) e w cleared

-- so a run ends at a time that it attempted
abbrev pub StopsAt : (z : Start) → EngineView → World → (time cleared : ℕ) → RunFault → Type 0
StopsAt z e w t c q = IsRefusedAt z e w t c q ⊎ LacksMemoryAt z e w t c q

-- The value at a point, and what is added of it to the line: its text, where the column stays open.
pub record GivesCell (z : Start) (time space : ℕ) (open_now : Bool) (line more : List ℕ) : Type 0 where
  pub value : PlainValue
  pub means : (b : Elements) → Has z b → StreamMeans (table_stream_at z.table space) b time value
  pub exact : (b : Elements) → Has z b → IsTrue z.policy.empties → IsSome (eqval (equations_of z.table) b z.depth time space)
  pub adds : MatchBool open_now ((value ≡ eod → ⊥) × (more ≡ line ++ value_text value)) ((value ≡ eod) × (more ≡ line))

-- The mark of a stream is right at a time: it is open; or it has ended before.
abbrev pub IsMarked : OneStream → Elements → (time : ℕ) → (mark : Bool) → Type 0
IsMarked x b t mark = MatchBool mark (IsOpen x b t) ((u : ℕ) × (u < t) × StreamMeans x b u eod)

-- Of the marks of columns those below a space are right at the next time, and the others at this one.
pub record AreMarked (z : Start) (b : Elements) (time space : ℕ) (marks : List Bool) : Type 0 where
  pub done : (j : ℕ) (mark : Bool) → slice_get marks j ≡ Some mark → j < space → IsMarked (table_stream_at z.table j) b (suc time) mark
  pub left : (j : ℕ) (mark : Bool) → slice_get marks j ≡ Some mark → space ≤ j → IsMarked (table_stream_at z.table j) b time mark

-- The cells of the columns below a space, parted, and whether one of these columns goes on.
pub record HasCells (z : Start) (b : Elements) (time space : ℕ) (line : List ℕ) (goes_on : Bool) : Type 0 where
  pub cells : List (List ℕ)
  pub are : AreCells (table_columns z.table space) b time cells
  pub joined : line ≡ parted cells
  pub some : MatchBool goes_on ((j : ℕ) × (j < space) × (HasEnded (table_stream_at z.table j) b time → ⊥)) ((j : ℕ) → j < space → HasEnded (table_stream_at z.table j) b time)
  pub exact : IsTrue z.policy.empties → (j : ℕ) → j < space → IsOpen (table_stream_at z.table j) b time → IsSome (eqval (equations_of z.table) b z.depth time j)

-- The engine is cleared where more contexts are known than may be for a demand, and that is counted.
abbrev pub ClearsMany : (old new : EngineView) → (cleared cleared_now : ℕ) → Type 0
ClearsMany e f c d =
    ((f ≡ e) × (d ≡ c) × (length e.known ≤ demand.most_known))
    ⊎ ((demand.most_known < length e.known) × (f ≡ record e { known = root ∷ []; stored = cleared e.stored; noted = record e.noted { sites = [] } }) × IsSoundEngine f × (d ≡ c + 1))
