-- Where the rows of a tree's table come from: places of the source.
use Rattle.std.specs.Prelude.{ℕ, List, [], ◌∷◌, ◌++◌, map, Bool, if◌then◌else◌}
use Rattle.lucid_tree.specs.Tree.{PlainTree, form, name, call, block, PlainTrees, no_trees, tree, PlainDefs, no_defs, defines, defines_function, defines_current}
use Rattle.lucid_tree.specs.declared.tree.DefKind.{DefKind}
use Rattle.lucid_tree.specs.declared.tree.DefKind.TheVariants.{Plain as PlainKind, Function as FunctionKind, Current as CurrentKind}
use Rattle.lucid_compile.specs.declared.tracing.Origins.{Origins}
use Rattle.lucid_compile.specs.declared.tracing.Spot.{Spot}
use Rattle.lucid_compile.specs.declared.tracing.What.{What}
use Rattle.lucid_compile.specs.declared.tracing.What.TheVariants.{Scope, Piece, Call, Name}
use Rattle.lucid_compile.specs.Static.{freezes}
use Rattle.lucid_compile.specs.Notes.{Note}
use Rattle.lucid_compile.specs.Settled.{scopes, pieces, names, calls}

-- the places of the rows of nodes, names, call places and scopes, by their numbers
pub record RowPlaces : Type 0 where
  pub nodes : List ℕ
  pub names : List ℕ
  pub places : List ℕ
  pub scopes : List ℕ

abbrev pub places_of : Origins → RowPlaces
places_of o = record { nodes = o.nodes.items; names = o.names.items; places = o.places.items; scopes = o.scopes.items }

abbrev pub places_in : List Note → List ℕ
places_in ns = map (λ n. n.at) ns

-- A node comes from its piece's own place; a name's row from its definition, its parameter or its call; a call place from its call; a scope from its
-- block, or from its function's definition, and scope 0 from place 0.
abbrev pub origins_of : PlainTree → RowPlaces
origins_of e = record { nodes = places_in (pieces e); names = places_in (names e); places = places_in (calls e); scopes = places_in (scopes e) }

-- what the code finds, in order: what the walk notes, without what is in scope

abbrev pub spot : (at : ℕ) → What → Spot
spot at w = record { at = at; what = w }

abbrev pub spot_if : Bool → (at : ℕ) → What → List Spot
spot_if b at w = if b then spot at w ∷ [] else []

abbrev pub parameter_spots : (places : List ℕ) → List Spot
parameter_spots ats = map (λ at. spot at Name) ats

abbrev mutual
  pub spots : PlainTree → List Spot
  spots (form at f es) = spots_in es ++ spot at Piece ∷ []
  spots (name at x) = spot at Piece ∷ []
  spots (call at x es) = spots_in es ++ spot at Call ∷ []
  spots (block at e ds) = spot_if (freezes ds) at Scope ++ spots e ++ spots_in_defs ds ++ spot_if (freezes ds) at Piece

  pub spots_in : PlainTrees → List Spot
  spots_in no_trees = []
  spots_in (tree e es) = spots e ++ spots_in es

  pub spots_in_defs : PlainDefs → List Spot
  spots_in_defs no_defs = []
  spots_in_defs (defines at x e ds) = spots e ++ spot at Name ∷ [] ++ spots_in_defs ds
  spots_in_defs (defines_function at x ns ats e ds) = spot at Scope ∷ parameter_spots ats ++ spots e ++ spots_in_defs ds
  spots_in_defs (defines_current at x e ds) = spots e ++ spot at Name ∷ [] ++ spots_in_defs ds

abbrev pub spots_of_def : (at : ℕ) → DefKind → List Spot
spots_of_def at (PlainKind e) = spots e ++ spot at Name ∷ []
spots_of_def at (FunctionKind ps ats e) = spot at Scope ∷ parameter_spots ats ++ spots e
spots_of_def at (CurrentKind e) = spots e ++ spot at Name ∷ []

-- one row more, or of a call two
abbrev pub with_place : What → (at : ℕ) → RowPlaces → RowPlaces
with_place Scope at p = record p { scopes = p.scopes ++ at ∷ [] }
with_place Piece at p = record p { nodes = p.nodes ++ at ∷ [] }
with_place Call at p = record p { nodes = p.nodes ++ at ∷ []; places = p.places ++ at ∷ [] }
with_place Name at p = record p { names = p.names ++ at ∷ [] }

abbrev pub with_spot : RowPlaces → Spot → RowPlaces
with_spot p s = with_place s.what s.at p
