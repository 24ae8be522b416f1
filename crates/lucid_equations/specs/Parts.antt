-- Laws of parts and looks: what a form reads and visits of a part is what the part's own node reads and visits, and a form visits
-- and needs what its looks do. Each law is over all contexts and points.
use Rattle.std.specs.Prelude.{◌≡◌, ℕ, ◌+◌, List, [], ◌∷◌, Option, Some, ◌↔◌}
use Rattle.lucid_value.specs.Plain.{PlainValue}
use Rattle.lucid_tree.specs.Tree.{Head}
use Rattle.lucid_tree.specs.Members.{In, Inside}
use Rattle.lucid_tree.specs.Rows.{plan, Reader, trace}
use Rattle.lucid_tree.specs.Levels.{Elements, Given, nothing_held, below, deeper}
use Rattle.lucid_tags.specs.Contexts.{Context}
use Rattle.lucid_equations.specs.Nodes.{PlainNode, row, PlainNodes, part_of, Equations}
use Rattle.lucid_equations.specs.Datons.{Daton}
use Rattle.lucid_equations.specs.Values.{part_at, node_value, node_hval, node_val}
use Rattle.lucid_equations.specs.Visits.{NodeEvents, walk_part, node_walk, node_visits, IsNeeded}

-- what a form reads of its parts at m, with held values
abbrev pub reads_parts : Equations → Given Daton → (m : ℕ) → PlainNodes → Context → Reader (Option PlainValue)
reads_parts p g m es c i t s = part_at p m (below (node_value p) g m) es c i t s

-- what it visits of them
abbrev pub visits_parts : Equations → Elements → (m d : ℕ) → PlainNodes → Context → Reader NodeEvents
visits_parts p b m d es c i t s = walk_part p (nothing_held b) m d (deeper (node_walk p (nothing_held b)) m d) es c i t s

-- Where a form looks, on paths of at most m references, where the approximation m + d decides the choices: parts at times and spaces.
abbrev pub looked_at : Equations → Elements → (m d : ℕ) → Head → PlainNodes → Context → (time space : ℕ) → List (ℕ × ℕ × ℕ)
looked_at p b m d f es c t s = trace m (plan (m + d) f t s) (reads_parts p (nothing_held b) (m + d) es c) (λ i u r. (i, u, r) ∷ [])

-- A part is read, and visited, by its number.
abbrev pub PartsAreReadByNumber : Type 0
PartsAreReadByNumber =
    (p : Equations) (es : PlainNodes) (i : ℕ) (e : PlainNode) → part_of es i ≡ Some e → (g : Given Daton) (m : ℕ) (c : Context) (t s : ℕ)
    → reads_parts p g m es c i t s ≡ node_hval p g m e c t s

abbrev pub PartsAreVisitedByNumber : Type 0
PartsAreVisitedByNumber =
    (p : Equations) (es : PlainNodes) (i : ℕ) (e : PlainNode) → part_of es i ≡ Some e → (b : Elements) (m d : ℕ) (c : Context) (t s : ℕ)
    → visits_parts p b m d es c i t s ≡ node_visits p b m d e c t s

-- What a look visits, the form visits, at each limit and with each added number.
abbrev pub LooksAreVisited : Type 0
LooksAreVisited =
    (p : Equations) (b : Elements) (m d : ℕ) (f : Head) (es : PlainNodes) (c : Context) (t s i u r : ℕ) → In (i, u, r) (looked_at p b m d f es c t s)
    → Inside (visits_parts p b m d es c i u r) (node_visits p b m d (row f es) c t s)

-- A look of a form that has a value needs the daton.
pub record LookNeeds (p : Equations) (b : Elements) (f : Head) (es : PlainNodes) (c : Context) (time space : ℕ) (daton : Daton × ℕ) : Type 0 where
  pub limit : ℕ
  pub value : PlainValue
  pub is : node_val p b limit (row f es) c time space ≡ Some value
  pub look : ℕ × ℕ × ℕ
  pub looked : In look (looked_at p b limit 0 f es c time space)
  pub part : PlainNode
  pub there : part_of es look.0 ≡ Some part
  pub needs : IsNeeded p b part c look.1 look.2 daton

-- What a form needs is what its looks need.
abbrev pub FormsNeedWhatLooksNeed : Type 0
FormsNeedWhatLooksNeed =
    (p : Equations) (b : Elements) (f : Head) (es : PlainNodes) (c : Context) (t s : ℕ) (d : Daton × ℕ)
    → IsNeeded p b (row f es) c t s d ↔ LookNeeds p b f es c t s d
