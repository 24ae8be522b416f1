-- Rounds of raising potentials, by Bellman and Ford.
use Rattle.std.specs.Prelude.{◌≡◌, ◌<◌, ◌≤◌, ℕ, ◌+◌, List, [], get_or, length, map, replicate, take, All, Option, Some, None, ◌⊎◌, Vec, ℤ, pos, ◌+ℤ◌, ◌*ℤ◌, ◌≤ℤ◌}
use Rattle.std.specs.Global.{Global}
use Rattle.lucid_tree.specs.Members.{In}
use Rattle.lucid_cycles.specs.declared.edge.Edge.{Edge}
use Rattle.lucid_cycles.specs.Cycles.{edge}
use Rattle.lucid_cycles.specs.Potentials.{potential, Adds}

-- a delay that stays within its type over so many steps
pub record Fits (w : ℤ) (n : ℕ) : Type 0 where
  pub low : pos n ≤ℤ (w +ℤ pos 4294967296)
  pub high : (w +ℤ pos n) ≤ℤ pos 4294967296

-- what an edge raises its name to
abbrev pub RaisesFrom : (factor : ℕ) → (before after : List ℕ) → (from : Option ℕ) → (to : ℕ) → (delay : ℤ) → Type 0
RaisesFrom a p q (Some x) y w = pos (potential p y + 1) ≤ℤ (pos (potential q x) +ℤ (pos a *ℤ w))
RaisesFrom a p q None y w = Unit {0}

abbrev pub Raises : (factor : ℕ) → (before after : List ℕ) → Edge → Type 0
Raises a p q e = RaisesFrom a p q e.from e.to e.delay

-- an edge from the name to another whose potential before makes the name's potential what it is after
pub record IsDue (g : List Edge) (factor : ℕ) (before : List ℕ) (name value : ℕ) : Type 0 where
  pub to : ℕ
  pub delay : ℤ
  pub stands : In (edge name to delay) g
  pub is : pos (potential before to + 1) ≡ pos value +ℤ (pos factor *ℤ delay)

-- One round: each potential rises to what the edges ask of it, by the potentials before the round, and to no more.
pub record IsRound (g : List Edge) (factor : ℕ) (before after : List ℕ) : Type 0 where
  pub same : length after ≡ length before
  pub rises : (x : ℕ) → potential before x ≤ potential after x
  pub raises : All (Raises factor before after) g
  pub due : (x : ℕ) → (potential after x ≡ potential before x) ⊎ IsDue g factor before x (potential after x)

-- an edge whose numbers are small: its name is one of so many, and its delay is at most 2^32
abbrev pub FromBelow : (names : ℕ) → Option ℕ → Type 0
FromBelow n None = Unit {0}
FromBelow n (Some x) = x < n

pub record IsSmall (names : ℕ) (e : Edge) : Type 0 where
  pub from_below : FromBelow names e.from
  pub low : pos 0 ≤ℤ (e.delay +ℤ pos 4294967296)
  pub high : e.delay ≤ℤ pos 4294967296

-- the number is enough for these edges
pub record AreAdded (factor : ℕ) (potentials : List ℕ) (add : ℕ) (g : List Edge) : Type 0 where
  pub two : 2 ≤ add
  pub adds : All (Adds factor potentials add) g

-- and the least such
pub record AreLeastAdded (factor : ℕ) (potentials : List ℕ) (add : ℕ) (g : List Edge) : Type 0 where
  pub enough : AreAdded factor potentials add g
  pub least : (c : ℕ) → AreAdded factor potentials c g → add ≤ c

-- Levels of potentials: all 0, and then round after round, each of which raises some name.
pub record IsStep (g : List Edge) (factor : ℕ) (before after : List ℕ) : Type 0 where
  pub round : IsRound g factor before after
  pub name : ℕ
  pub rises : potential before name < potential after name

pub record AreLevels (g : List Edge) (factor names : ℕ) (levels : List (List ℕ)) : Type 0 where
  pub starts : get_or levels 0 [] ≡ replicate names 0
  pub steps : (k : ℕ) → k + 1 < length levels → IsStep g factor (get_or levels k []) (get_or levels (k + 1) [])

-- the levels of a list of vectors
abbrev pub levels_of : List (Vec ℕ Global) → List (List ℕ)
levels_of h = map (λ v. v.items) h

-- an edge makes the name's potential this
pub record Makes (factor : ℕ) (before : List ℕ) (name value : ℕ) (e : Edge) : Type 0 where
  pub from_name : e.from ≡ Some name
  pub is : pos (potential before e.to + 1) ≡ pos value +ℤ (pos factor *ℤ e.delay)

-- an edge of the graph makes the name's potential this
pub record IsDueEdge (g : List Edge) (factor : ℕ) (before : List ℕ) (name value : ℕ) (e : Edge) : Type 0 where
  pub stands : In e g
  pub makes : Makes factor before name value e

-- what an edge asks by the potentials before is there, and nothing else rose
pub record IsRaised (factor : ℕ) (before old new : List ℕ) (e : Edge) : Type 0 where
  pub same : length new ≡ length old
  pub rises : (x : ℕ) → potential old x ≤ potential new x
  pub raises : Raises factor before new e
  pub due : (x : ℕ) → (potential new x ≡ potential old x) ⊎ Makes factor before x (potential new x) e

-- a round as far as the first i edges
pub record Rounding (g : List Edge) (factor : ℕ) (before now : List ℕ) (i : ℕ) : Type 0 where
  pub same : length now ≡ length before
  pub rises : (x : ℕ) → potential before x ≤ potential now x
  pub raises : All (Raises factor before now) (take i g)
  pub due : (x : ℕ) → (potential now x ≡ potential before x) ⊎ IsDue g factor before x (potential now x)
