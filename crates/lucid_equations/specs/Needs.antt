-- Laws of what is gone to and needed: a reference at one more than what it goes on with, the values of visited datons, and needs
-- through datons.
-- Each law is over all tables p, contexts and points.
use Rattle.std.specs.Prelude.{◌≡◌, ℕ, suc, List, ◌∷◌, Some, None, ◌⊎◌}
use Rattle.std.specs.List.{filter_map}
use Rattle.lucid_value.specs.Plain.{PlainValue}
use Rattle.lucid_tree.specs.Members.{In, Inside}
use Rattle.lucid_tree.specs.Levels.{element_of, goes_to, nowhere, Elements, Given, or_else, looked_up, referred, reference_of}
use Rattle.lucid_tags.specs.Contexts.{Context}
use Rattle.lucid_equations.specs.Nodes.{PlainNode, reference, invoke, Reference, Equations}
use Rattle.lucid_equations.specs.Datons.{Daton, NodePosition, reference_aim, call_aim, node_aim, daton_aim}
use Rattle.lucid_equations.specs.Values.{node_hval, node_val, NodeMeans}
use Rattle.lucid_equations.specs.Visits.{node_visits, IsNeeded}

-- By the approximation m, a daton has the value at a space: the position has it with which the daton goes on. So the daton means it.
pub record HasValue (p : Equations) (b : Elements) (m : ℕ) (d : Daton) (space : ℕ) (v : PlainValue) : Type 0 where
  pub position : NodePosition
  pub time : ℕ
  pub goes : daton_aim p d ≡ goes_to d position time
  pub value : node_val p b m position.node position.context time space ≡ Some v

-- Where the approximation m of a node is defined, each daton that it visits with nothing added has a value by that same m.
abbrev pub VisitedDatonsHaveValues : Type 0
VisitedDatonsHaveValues =
    (p : Equations) (b : Elements) (m : ℕ) (e : PlainNode) (c : Context) (t s : ℕ) (v : PlainValue) → node_val p b m e c t s ≡ Some v
    → (d : Daton) (r : ℕ) → In (d, r) (filter_map reference_of (node_visits p b m 0 e c t s)) → (w : PlainValue) × HasValue p b m d r w

-- What a node with a meaning goes to, at any limit and with any added number, it needs.
abbrev pub VisitedIsNeeded : Type 0
VisitedIsNeeded =
    (p : Equations) (b : Elements) (m k : ℕ) (e : PlainNode) (c : Context) (t s : ℕ) (v : PlainValue) → NodeMeans p b e c t s v
    → (d : Daton × ℕ) → In d (filter_map reference_of (node_visits p b m k e c t s)) → IsNeeded p b e c t s d

-- What a needed daton needs is needed: what the position needs with which it goes on.
abbrev pub NeedsOfDatonsAreNeeded : Type 0
NeedsOfDatonsAreNeeded =
    (p : Equations) (b : Elements) (e : PlainNode) (c : Context) (t s : ℕ) (d : Daton) (r : ℕ) (x : NodePosition) (u : ℕ) (k : Daton × ℕ)
    → IsNeeded p b e c t s (d, r) → daton_aim p d ≡ goes_to d x u → IsNeeded p b x.node x.context u r k → IsNeeded p b e c t s k

-- A reference or call that goes on with a position has its daton's held value at any limit, or else, at one more, the position's.
abbrev pub ReferencesHaveValues : Type 0
ReferencesHaveValues =
    (p : Equations) (g : Given Daton) (m : ℕ) (e : PlainNode) (c : Context) (t s : ℕ) (d : Daton) (x : NodePosition) (u : ℕ) → node_aim p e c t ≡ goes_to d x u
    → (node_hval p g (suc m) e c t s ≡ or_else (g.held d s) (node_hval p g m x.node x.context u s)) × (node_hval p g 0 e c t s ≡ g.held d s)

-- One that goes on with an element has it at each limit but 0.
abbrev pub ElementsHaveValues : Type 0
ElementsHaveValues =
    (p : Equations) (g : Given Daton) (m : ℕ) (e : PlainNode) (c : Context) (t s : ℕ) (n : List ℕ) (j : ℕ) → node_aim p e c t ≡ element_of n j
    → (node_hval p g (suc m) e c t s ≡ g.element n j) × (node_hval p g 0 e c t s ≡ None)

-- One that leads nowhere has no value at any limit.
abbrev pub NowhereHasNoValue : Type 0
NowhereHasNoValue =
    (p : Equations) (g : Given Daton) (m : ℕ) (c : Context) (t s : ℕ)
    → ((r : Reference) → reference_aim p r c t ≡ nowhere → node_hval p g m (reference r) c t s ≡ None)
    × ((n at l : ℕ) → call_aim p n at l c t ≡ nowhere → node_hval p g m (invoke n at l) c t s ≡ None)

-- At one more a reference visits its daton and what the position visits.
abbrev pub ReferencesVisit : Type 0
ReferencesVisit =
    (p : Equations) (b : Elements) (m k : ℕ) (e : PlainNode) (c : Context) (t s : ℕ) (d : Daton) (x : NodePosition) (u : ℕ) → node_aim p e c t ≡ goes_to d x u
    → Inside (referred d x u s ∷ node_visits p b m k x.node x.context u s) (node_visits p b (suc m) k e c t s)

-- An element is looked up at each limit but 0.
abbrev pub ElementsAreLookedUp : Type 0
ElementsAreLookedUp =
    (p : Equations) (b : Elements) (m k : ℕ) (e : PlainNode) (c : Context) (t s : ℕ) (n : List ℕ) (j : ℕ) → node_aim p e c t ≡ element_of n j
    → In (looked_up n j) (node_visits p b (suc m) k e c t s)

-- A reference needs nothing but its daton and what the position needs,
abbrev pub ReferencesNeedNoMore : Type 0
ReferencesNeedNoMore =
    (p : Equations) (b : Elements) (e : PlainNode) (c : Context) (t s : ℕ) (d : Daton) (x : NodePosition) (u : ℕ) → node_aim p e c t ≡ goes_to d x u
    → (k : Daton × ℕ) → IsNeeded p b e c t s k → (k ≡ (d, s)) ⊎ IsNeeded p b x.node x.context u s k

-- and, where it has a meaning, all of that.
abbrev pub ReferencesNeedAll : Type 0
ReferencesNeedAll =
    (p : Equations) (b : Elements) (e : PlainNode) (c : Context) (t s : ℕ) (d : Daton) (x : NodePosition) (u : ℕ) → node_aim p e c t ≡ goes_to d x u
    → (v : PlainValue) → NodeMeans p b x.node x.context u s v
    → (k : Daton × ℕ) → (k ≡ (d, s)) ⊎ IsNeeded p b x.node x.context u s k → IsNeeded p b e c t s k
