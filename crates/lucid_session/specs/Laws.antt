-- The laws of runs: what holds of a run by one subject holds by another that agrees with it. Each is the contract of a function of `laws`.
use Rattle.std.specs.Prelude.{◌≡◌, ℕ, zero, suc, ◌≤◌, List, [], ◌∷◌, ◌++◌, Option, ◌↔◌, Result}
use Rattle.lucid_value.specs.Plain.{PlainValue}
use Rattle.lucid_tree.specs.Tree.{PlainTree}
use Rattle.lucid_tree.specs.Levels.{Elements, HoldsExactly}
use Rattle.lucid_tree.specs.Env.{Referent, Env}
use Rattle.lucid_tree.specs.Output as tree
use Rattle.lucid_ports.specs.declared.run.Summary.{Summary}
use Rattle.lucid_ports.specs.declared.run.RunFault.{RunFault}
use Rattle.lucid_equations.specs.Counts.{HasDistinct, Points}
use Rattle.lucid_equations.specs.declared.table.Table.{Table}
use Rattle.lucid_session.specs.Subject.{OneStream, stream_subject, tree_stream, AreSameStream, Output}
use Rattle.lucid_session.specs.Runs.{RunView, Ran}
use Rattle.lucid_session.specs.Figures.{Layout, one_stream, Demands, ArePointsBelow, ArePointsBefore, Counted, root_counted, Figures}

-- The output of a tree's stream is the output of the tree.
abbrev pub TreesWriteTheirOutput : Type 0
TreesWriteTheirOutput =
    (e : PlainTree) (b : Elements) (k : ℕ) (bytes : List ℕ) → Output (stream_subject (tree_stream e)) b k bytes ↔ tree.Output b e k bytes

-- Of the same stream a run does the same.
abbrev pub SameStreamsRunAlike : Type 0
SameStreamsRunAlike =
    (x y : OneStream) → AreSameStream x y → (b : Elements) (r : RunView) (result : Result Summary RunFault)
    → Ran (stream_subject x) b r result → Ran (stream_subject y) b r result

-- One subject stands for another in all that is counted, over any list of points: values are demanded at the same points; the same
-- approximations; as many different referents; at most as many different things entered; and the same approximations where exactly what is
-- referred to is held, each with its value.
pub record StandsFor {K E L F : Type 0} (C : Counted K E) (D : Counted L F) : Type 0 where
  pub demands : (b : Elements) (t s : ℕ) → Demands C.layout b t s ↔ Demands D.layout b t s
  pub values : (b : Elements) (m t s : ℕ) → C.value b m t s ≡ D.value b m t s
  pub as_many : (b : Elements) (m d : ℕ) (points : Points) (n : ℕ) → HasDistinct (C.refers b m d points) n → HasDistinct (D.refers b m d points) n
  pub no_more : (b : Elements) (m d : ℕ) (points : Points) (n k : ℕ) → HasDistinct (D.enters b m d points) n → HasDistinct (C.enters b m d points) k → k ≤ n
  pub held : (b : Elements) (m : ℕ) (points : Points) (held : L → (space : ℕ) → Option PlainValue) (kept : K → (space : ℕ) → Option PlainValue)
      → HoldsExactly (D.valued b m points) held → HoldsExactly (C.valued b m points) kept
      → (n t s : ℕ) → C.held_value b kept n t s ≡ D.held_value b held n t s

-- The figures of a table's run are those of whatever it stands for: of what is counted of a tree, by referents and environments. So it is at
-- any layout.
abbrev pub FiguresCarry : Type 0
FiguresCarry =
    (T : Table) (l : Layout) (D : Counted Referent Env) → StandsFor (root_counted T l) D → (b : Elements) (r : RunView) (result : Result Summary RunFault)
    → Figures (root_counted T l) b r result → Figures D b r result

-- the points of the times below one, at space 0
abbrev pub points_below : ℕ → Points
points_below zero = []
points_below (suc t) = points_below t ++ (t, 0) ∷ []

-- At these the values of one stream are demanded, at the times below one, and before that time.
abbrev pub OneStreamsPoints : Type 0
OneStreamsPoints = (b : Elements) (w : ℕ) → ArePointsBelow one_stream b w (points_below w) × ArePointsBefore one_stream b w 0 (points_below w)
