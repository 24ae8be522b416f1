-- The figures of a run, by exactly what its values need: how many values are held, where it is too deep with what is held, and when the
-- engine was cleared.
use Rattle.std.specs.Prelude.{◌≡◌, ℕ, suc, ◌<◌, ◌⊎◌, ◌↔◌, List, Option, None, Some, IsSome, IsTrue, if◌then◌else◌, Result, Ok, Err, IfOk, slice_get}
use Rattle.lucid_value.specs.Plain.{PlainValue}
use Rattle.lucid_tree.specs.Levels.{Elements, HoldsExactly}
use Rattle.lucid_tree.specs.Members.{In}
use Rattle.lucid_ports.specs.declared.run.Summary.{Summary}
use Rattle.lucid_ports.specs.declared.run.RunFault.{RunFault}
use Rattle.lucid_ports.specs.declared.run.RunFault.TheVariants.{TooDeep}
use Rattle.lucid_tags.specs.Contexts.{Context}
use Rattle.lucid_equations.specs.Datons.{Daton}
use Rattle.lucid_equations.specs.Values.{eqval, eqhval}
use Rattle.lucid_equations.specs.Counts.{HasDistinct, Points, datons, valued_datons, contexts}
use Rattle.lucid_equations.specs.Rows.{equations_of}
use Rattle.lucid_equations.specs.declared.table.Table.{Table}
use Rattle.lucid_session.specs.Subject.{OneStream, table_columns, IsOpen}
use Rattle.lucid_session.specs.Runs.{RunView, ForSomeAdded}

-- Where values are demanded at a time: of one stream at space 0; of streams side by side at the number of each that is open.
pub data Layout : Type 0 where
  one_stream : Layout
  side_by_side : List OneStream → Layout

abbrev pub Demands : Layout → Elements → (time space : ℕ) → Type 0
Demands one_stream b t s = s ≡ 0
Demands (side_by_side xs) b t s = (x : OneStream) × (slice_get xs s ≡ Some x) × IsOpen x b t

-- these are the points at which values are demanded, at the times below one
abbrev pub ArePointsBelow : Layout → Elements → (times : ℕ) → Points → Type 0
ArePointsBelow l b w points = (t s : ℕ) → In (t, s) points ↔ ((t < w) × Demands l b t s)

-- these are those before a point: at the times below, and at its time at lower spaces
abbrev pub ArePointsBefore : Layout → Elements → (time space : ℕ) → Points → Type 0
ArePointsBefore l b t s points = (u r : ℕ) → In (u, r) points ↔ (((u < t) ⊎ ((u ≡ t) × (r < s))) × Demands l b u r)

-- What is counted of a subject over a list of points: what its references refer to, alone and with their values, and what it enters; its
-- approximations, by themselves and with held values; and where values are demanded. K is what a reference refers to, at a space, and E what
-- is entered. The approximation of a limit is walked, and an added number decides its choices.
pub record Counted (K E : Type 0) : Type 0 where
  pub refers : Elements → (limit added : ℕ) → Points → List (K × ℕ)
  pub valued : Elements → (limit : ℕ) → Points → List (K × ℕ × PlainValue)
  pub enters : Elements → (limit added : ℕ) → Points → List E
  pub value : Elements → (limit time space : ℕ) → Option PlainValue
  pub held_value : Elements → (K → (space : ℕ) → Option PlainValue) → (limit time space : ℕ) → Option PlainValue
  pub layout : Layout

-- what is counted of a table's root, where values are demanded so: datons and contexts
abbrev pub root_counted : Table → Layout → Counted Daton Context
root_counted T l = record {
  refers = λ b m d points. datons (equations_of T) b m d points;
  valued = λ b m points. valued_datons (equations_of T) b m points;
  enters = λ b m d points. contexts (equations_of T) b m d points;
  value = λ b m t s. eqval (equations_of T) b m t s;
  held_value = λ b held m t s. eqhval (equations_of T) (record { element = b; held = held }) m t s;
  layout = l;
}

-- what is counted of it at space 0, and at so many spaces side by side
abbrev pub table_counted : Table → Counted Daton Context
table_counted T = root_counted T one_stream

abbrev pub columns_counted : Table → (columns : ℕ) → Counted Daton Context
columns_counted T n = root_counted T (side_by_side (table_columns T n))

-- the approximation of a limit is defined at each of the points
abbrev pub IsDefinedAt : {K E : Type 0} → Counted K E → Elements → (limit : ℕ) → Points → Type 0
IsDefinedAt C b m points = (t s : ℕ) → In (t, s) points → IsSome (C.value b m t s)

-- At a space at which a value is demanded then, the approximation of the limit is undefined with all that held that the values before needed,
-- each with its value.
abbrev pub IsUndefinedHeld : {K E : Type 0} → Counted K E → Elements → (limit time : ℕ) → Type 0
IsUndefinedHeld {K = K} C b limit t =
    (s : ℕ) × Demands C.layout b t s × ((points : Points) → ArePointsBefore C.layout b t s points → (m : ℕ) → IsDefinedAt C b m points
    → (held : K → (space : ℕ) → Option PlainValue) → HoldsExactly (C.valued b m points) held → C.held_value b held limit t s ≡ None)

-- how many times a run that is done attempted: those of its lines, and that of the end
abbrev pub times_of : Summary → ℕ
times_of s = if s.ended then suc s.lines else s.lines

-- What is said of the number of times attempted and of the number of clearings, where a run tells both.
abbrev pub OnClearings : Result Summary RunFault → ((times cleared : ℕ) → Type 0) → Type 0
OnClearings (Ok s) P = P (times_of s) s.cleared
OnClearings (Err (TooDeep time lost cleared)) P = P (suc time) cleared
OnClearings (Err e) P = Unit {0}

-- what is said of the time and of the two counts, where a run was too deep
abbrev pub OnDepth : Result Summary RunFault → ((time lost cleared : ℕ) → Type 0) → Type 0
OnDepth (Err (TooDeep time lost cleared)) P = P time lost cleared
OnDepth _ P = Unit {0}

-- the list has more than so many different items
abbrev pub HasMoreThan : {A : Type 0} → ℕ → List A → Type 0
HasMoreThan few xs = (n : ℕ) → HasDistinct xs n → few < n

-- The figures, by all that is counted of the subject.
pub record Figures {K E : Type 0} (C : Counted K E) (b : Elements) (r : RunView) (result : Result Summary RunFault) : Type 0 where
  -- Under a policy that keeps, and with nothing lost or cleared, as many values are held as the values at the times attempted need.
  pub held : IsTrue r.policy.keeps → IfOk result (λ s. s.lost ≡ 0 → s.cleared ≡ 0 → (points : Points) → ArePointsBelow C.layout b (times_of s) points
      → (m : ℕ) → IsDefinedAt C b m points → HasDistinct (C.refers b m 0 points) s.held)
  -- Too deep is then also the limit's approximation with all that held that the values before needed.
  pub deep : IsTrue r.policy.keeps → OnDepth result (λ time lost cleared. lost ≡ 0 → cleared ≡ 0 → IsUndefinedHeld C b r.depth time)
  -- Under any policy, the engine is cleared only where more than 999,999 different contexts are entered at the times attempted.
  pub cleared : OnClearings result (λ times cleared. 0 < cleared → ForSomeAdded r (λ d.
      (points : Points) → ArePointsBelow C.layout b times points → HasMoreThan 999999 (C.enters b r.depth d points)))
