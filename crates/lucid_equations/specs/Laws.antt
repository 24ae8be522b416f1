-- The laws of nodes, over all tables p, inputs b, contexts and points. Each is the contract of a function of `laws`.
use Rattle.std.specs.Prelude.{◌≡◌, ℕ, ◌+◌, ◌≤◌, Some, ◌↔◌}
use Rattle.std.specs.List.{filter_map}
use Rattle.std.specs.Bool.{Decides}
use Rattle.lucid_value.specs.Plain.{PlainValue}
use Rattle.lucid_tree.specs.Members.{In, Inside}
use Rattle.lucid_tree.specs.Levels.{goes_to, Elements, Given, reference_of, entered_of}
use Rattle.lucid_tags.specs.Contexts.{Context}
use Rattle.lucid_equations.specs.Nodes.{PlainNode, invoke, Reference, Equations}
use Rattle.lucid_equations.specs.Datons.{Daton, same_daton, NodePosition, NodeAim, reference_aim, call_aim, node_aim, daton_aim}
use Rattle.lucid_equations.specs.Values.{node_hval, node_val, NodeMeans}
use Rattle.lucid_equations.specs.Visits.{node_visits, IsNeeded}

-- A defined approximation is the same at each greater limit, whatever is held.
abbrev pub NodeApproximationsStay : Type 0
NodeApproximationsStay =
    (p : Equations) (g : Given Daton) (m n : ℕ) → m ≤ n → (e : PlainNode) (c : Context) (t s : ℕ) (v : PlainValue)
    → node_hval p g m e c t s ≡ Some v → node_hval p g n e c t s ≡ Some v

-- So a node means at most one value at a point.
abbrev pub NodesMeanOneValue : Type 0
NodesMeanOneValue =
    (p : Equations) (b : Elements) (e : PlainNode) (c : Context) (t s : ℕ) (v w : PlainValue) → NodeMeans p b e c t s v → NodeMeans p b e c t s w → v ≡ w

-- A reference that goes on with a position does so for its daton: what a daton goes on with does not rest on who refers to it.
abbrev pub GoesByItsDaton : Equations → NodeAim → Type 0
GoesByItsDaton p a = (d : Daton) (x : NodePosition) (u : ℕ) → a ≡ goes_to d x u → daton_aim p d ≡ goes_to d x u

abbrev pub ReferencesGoByDatons : Type 0
ReferencesGoByDatons = (p : Equations) (r : Reference) (c : Context) (t : ℕ) → GoesByItsDaton p (reference_aim p r c t)

abbrev pub CallsGoByDatons : Type 0
CallsGoByDatons = (p : Equations) (n at l : ℕ) (c : Context) (t : ℕ) → GoesByItsDaton p (call_aim p n at l c t)

-- So it is for whatever node refers to it.
abbrev pub NodesGoByDatons : Type 0
NodesGoByDatons = (p : Equations) (e : PlainNode) (c : Context) (t : ℕ) → GoesByItsDaton p (node_aim p e c t)

-- Each held value is one that its daton means: that the position means with which the daton goes on.
abbrev pub HeldIsMeant : Equations → Given Daton → Type 0
HeldIsMeant p g =
    (d : Daton) (x : NodePosition) (u s : ℕ) (v : PlainValue) → daton_aim p d ≡ goes_to d x u → g.held d s ≡ Some v
    → NodeMeans p g.element x.node x.context u s v

-- Held values that are meant give only values that are meant.
abbrev pub HeldValuesGiveMeantValues : Type 0
HeldValuesGiveMeantValues =
    (p : Equations) (g : Given Daton) → HeldIsMeant p g → (m : ℕ) (e : PlainNode) (c : Context) (t s : ℕ) (v : PlainValue)
    → node_hval p g m e c t s ≡ Some v → NodeMeans p g.element e c t s v

-- The second holds all that the first holds, and knows the same elements.
pub record HoldsMore (g h : Given Daton) : Type 0 where
  pub elements : h.element ≡ g.element
  pub held : (d : Daton) (s : ℕ) (v : PlainValue) → g.held d s ≡ Some v → h.held d s ≡ Some v

-- With more held values that are meant, a defined approximation is the same.
abbrev pub MoreHeldValuesKeepValues : Type 0
MoreHeldValuesKeepValues =
    (p : Equations) (g h : Given Daton) → HoldsMore g h → HeldIsMeant p h → (m : ℕ) (e : PlainNode) (c : Context) (t s : ℕ) (v : PlainValue)
    → node_hval p g m e c t s ≡ Some v → node_hval p h m e c t s ≡ Some v

-- Where an approximation is defined, each greater one visits the very same, in the same order.
abbrev pub DefinedVisitsStay : Type 0
DefinedVisitsStay =
    (p : Equations) (b : Elements) (m n : ℕ) → m ≤ n → (e : PlainNode) (c : Context) (t s : ℕ) (v : PlainValue)
    → node_val p b m e c t s ≡ Some v → node_visits p b n 0 e c t s ≡ node_visits p b m 0 e c t s

-- So every approximation that is defined goes to the datons that are needed, and to no other.
abbrev pub NeededDatons : Type 0
NeededDatons =
    (p : Equations) (b : Elements) (m : ℕ) (e : PlainNode) (c : Context) (t s : ℕ) (v : PlainValue) (d : Daton × ℕ)
    → node_val p b m e c t s ≡ Some v → IsNeeded p b e c t s d ↔ In d (filter_map reference_of (node_visits p b m 0 e c t s))

-- What is visited only grows with the limit.
abbrev pub VisitsGrowWithLimit : Type 0
VisitsGrowWithLimit =
    (p : Equations) (b : Elements) (m d : ℕ) (e : PlainNode) (c : Context) (t s : ℕ) → Inside (node_visits p b m d e c t s) (node_visits p b (m + 1) d e c t s)

-- What is visited only grows with the added number.
abbrev pub VisitsGrowWithAdded : Type 0
VisitsGrowWithAdded =
    (p : Equations) (b : Elements) (m d : ℕ) (e : PlainNode) (c : Context) (t s : ℕ) → Inside (node_visits p b m d e c t s) (node_visits p b m (d + 1) e c t s)

-- So what is visited with less is visited with more.
abbrev pub MoreVisitsMore : Type 0
MoreVisitsMore =
    (p : Equations) (b : Elements) (m n d k : ℕ) → m ≤ n → d ≤ k → (e : PlainNode) (c : Context) (t s : ℕ)
    → Inside (node_visits p b m d e c t s) (node_visits p b n k e c t s)

-- A call enters the context that its daton stands in, which has the call's own frame, at each limit.
abbrev pub CallsEnterTheirContexts : Type 0
CallsEnterTheirContexts =
    (p : Equations) (b : Elements) (m d n at l : ℕ) (c : Context) (t s : ℕ) (k : Daton) (x : NodePosition) (u : ℕ)
    → call_aim p n at l c t ≡ goes_to k x u → In k.context (filter_map entered_of (node_visits p b m d (invoke n at l) c t s))

-- What is visited at m, where the approximation m + d decides the choices, is visited at m + d itself.
abbrev pub AddedIsLimit : Type 0
AddedIsLimit =
    (p : Equations) (b : Elements) (m d : ℕ) (e : PlainNode) (c : Context) (t s : ℕ) → Inside (node_visits p b m d e c t s) (node_visits p b (m + d) 0 e c t s)

-- The test of the same daton decides equality.
abbrev pub SameDatonIsEquality : Type 0
SameDatonIsEquality = (d k : Daton) → Decides (same_daton d k) (d ≡ k)
