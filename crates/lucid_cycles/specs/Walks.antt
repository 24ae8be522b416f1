-- What the walk through a program meets, and what its readers keep.
use Rattle.std.specs.Prelude.{ℕ, ◌+◌, List, [], ◌∷◌, ◌++◌, take, set, Option, Some, None, Result, Ok, Err, IsErr, nat_lt, if◌then◌else◌, ℤ}
use Rattle.lucid_tree.specs.Tree.{PlainTree, PlainTrees, PlainDefs}
use Rattle.lucid_tree.specs.declared.tree.DefKind.{DefKind}
use Rattle.lucid_tree.specs.declared.tree.DefKind.TheVariants.{Plain, Function, Current}
use Rattle.lucid_cycles.specs.declared.edge.Edge.{Edge}
use Rattle.lucid_cycles.specs.declared.line.Definition.{Definition}
use Rattle.lucid_cycles.specs.declared.edge.Ask.{Ask}
use Rattle.lucid_cycles.specs.declared.names.Names.{Names}
use Rattle.lucid_cycles.specs.declared.walk.Mark.{Mark}
use Rattle.lucid_cycles.specs.declared.walk.Mark.TheVariants.{Part, Name, Edge as Reference}
use Rattle.lucid_cycles.specs.Judged.{most_names, outside, outside_in, outside_in_defs}
use Rattle.lucid_cycles.specs.JudgmentLine.{definitions, definitions_in, definitions_in_defs}
use Rattle.lucid_cycles.specs.Graph.{Bindings, edges, edges_in, edges_in_defs, numbered}
use Rattle.lucid_cycles.specs.Potentials.{Falls, Adds}

-- what is met: the places of what isn't judged, the definitions of plain names, and the edges
pub record Marks : Type 0 where
  pub outside : List ℕ
  pub definitions : List Definition
  pub edges : List Edge

abbrev pub no_marks : Marks
no_marks = record { outside = []; definitions = []; edges = [] }

abbrev pub both : Marks → Marks → Marks
both m n = record { outside = m.outside ++ n.outside; definitions = m.definitions ++ n.definitions; edges = m.edges ++ n.edges }

-- What is read goes on from some marks to more, until it stops.
pub record Goes {S E : Type 0} (reads : S → Marks → Result (Unit {0}) E → S → Type 0) : Type 0 where
  pub none : (s : S) → reads s no_marks (Ok tt) s
  pub more : (s t u : S) (m n : Marks) (r : Result (Unit {0}) E) → reads s m (Ok tt) t → reads t n r u → reads s (both m n) r u
  pub stops : (s t : S) (m n : Marks) (e : E) (r : Result (Unit {0}) E) → IsErr r → reads s m (Err e) t → reads s (both m n) r t

-- in a tree, in parts, in definitions
abbrev pub marks : Bindings → (from : Option ℕ) → (delay : ℤ) → PlainTree → Marks
marks b x w e = record { outside = outside e; definitions = definitions e; edges = edges b x w e }

abbrev pub marks_in : Bindings → (from : Option ℕ) → (delay later : ℤ) → PlainTrees → Marks
marks_in b x w v es = record { outside = outside_in es; definitions = definitions_in es; edges = edges_in b x w v es }

abbrev pub marks_in_defs : Bindings → PlainDefs → Marks
marks_in_defs b ds = record { outside = outside_in_defs ds; definitions = definitions_in_defs ds; edges = edges_in_defs b ds }

-- by one mark
abbrev pub marked : Mark → Marks
marked (Part at judged) = record { outside = if judged then [] else (at ∷ []); definitions = []; edges = [] }
marked (Name at n) = record { outside = []; definitions = record { at = at; name = n.now } ∷ []; edges = [] }
marked (Reference e) = record { outside = []; definitions = []; edges = e ∷ [] }

-- by a definition itself, without its right side
abbrev pub own_marks : (at : ℕ) → (name : List ℕ) → DefKind → Marks
own_marks at x (Plain e) = record { outside = []; definitions = record { at = at; name = x } ∷ []; edges = [] }
own_marks at x (Function ps ats e) = record { outside = at ∷ []; definitions = []; edges = [] }
own_marks at x (Current e) = record { outside = at ∷ []; definitions = []; edges = [] }

-- the lesser of a place and what may be one
abbrev pub lesser : Option ℕ → ℕ → Option ℕ
lesser None at = Some at
lesser (Some x) at = if nat_lt at x then Some at else Some x

-- a table with one name more; past its room the names are only known to be too many
abbrev pub with_name : Names → ℕ → Names
with_name n at =
    if nat_lt n.count most_names then record { places = set n.places n.count at; count = n.count + 1 }
    else record { places = n.places; count = most_names + 1 }

-- the names of a table
abbrev pub listed_names : Names → List ℕ
listed_names n = take n.count n.places

-- the edge has what it asks
pub record Holds (factor : ℕ) (potentials : List ℕ) (add : ℕ) (e : Edge) : Type 0 where
  pub falls : Falls factor potentials e
  pub adds : Adds factor potentials add e

-- the edge, its names by their numbers, has what it asks
abbrev pub HasAsked : (names : List ℕ) → (factor : ℕ) → (potentials : List ℕ) → (add : ℕ) → Edge → Type 0
HasAsked ds a p c e = Holds a p c (numbered ds e)

-- the same, by what is asked
abbrev pub asked : Ask → Edge → Type 0
asked a = HasAsked (listed_names a.names.now) a.factor a.potentials.now a.add
