-- What the code finds in a tree is what the walk notes, and its places are the tree's origins.
use Rattle.lucid_compile.proofs.Common.{◌≡◌, ℕ, suc, Bool, true, false, if◌then◌else◌, List, [], ◌∷◌, ◌++◌, map, refl, sym, ap, ◌∙◌, append_assoc, map-append, PlainTree, form, name, call, block, PlainTrees, no_trees, tree, PlainDefs, no_defs, defines, defines_function, defines_current, freezes, in_body, def_of, one_def, Def, DefKind, meaning, Kind, Note, note, opening, piece, plain_right, current_right, parameter_notes, block_piece, noted_name}
use Rattle.std.specs.Prelude.{fold, filter}
use Rattle.std.proofs.lemmas.List.{append-nil}
use Rattle.lucid_scope.specs.Scope.{Meaning, free, plain_name, parameter, current_name, function}
use Rattle.lucid_compile.specs.Static.{Static, outermost, in_block}
use Rattle.lucid_compile.specs.Notes.{block_opens, notes, notes_in, notes_in_defs, is_opening}
use Rattle.lucid_compile.specs.Settled.{calls, names, callee}
use Rattle.lucid_compile.specs.declared.tracing.Spot.{Spot}
use Rattle.lucid_compile.specs.declared.tracing.What.{What}
use Rattle.lucid_compile.specs.declared.tracing.What.TheVariants.{Scope, Piece, Call, Name}
use Rattle.lucid_compile.specs.Origins.{RowPlaces, places_in, origins_of, spot, spot_if, parameter_spots, spots, spots_in, spots_in_defs, spots_of_def, with_place, with_spot}
use Rattle.lucid_tree.specs.declared.tree.DefKind.TheVariants.{Plain as PlainKind, Function as FunctionKind, Current as CurrentKind}
use Rattle.lucid_compile.proofs.Walking.{names_of, calls_of, pieces_of}

abbrev what_of : Kind → What
what_of opening = Scope
what_of (piece (call at x es)) = Call
what_of (piece e) = Piece
what_of _ = Name

abbrev spot_of : Note → Spot
spot_of n = spot n.at (what_of n.kind)

abbrev found : List Note → List Spot
found ns = map spot_of ns

opens-found : (at : ℕ) (k : Static) (b : Bool) → found (if b then note at k opening ∷ [] else []) ≡ spot_if b at Scope
opens-found at k true = refl
opens-found at k false = refl

block-found : (at : ℕ) (k : Static) (e : PlainTree) (ds : PlainDefs) (b : Bool) → found (if b then note at k (piece (block at e ds)) ∷ [] else []) ≡ spot_if b at Piece
block-found at k e ds true = refl
block-found at k e ds false = refl

parameters-found : (k : Static) (i : ℕ) (ats : List ℕ) → found (parameter_notes k i ats) ≡ parameter_spots ats
parameters-found k i [] = refl
parameters-found k i (at ∷ ats) = ap (λ l. spot at Name ∷ l) (parameters-found k (suc i) ats)

mutual
  tree-found : (k : Static) (e : PlainTree) → found (notes k e) ≡ spots e
  tree-found k (form at f es) = map-append spot_of (notes_in k es) (note at k (piece (form at f es)) ∷ []) ∙ ap (λ l. l ++ spot at Piece ∷ []) (trees-found k es)
  tree-found k (name at x) = refl
  tree-found k (call at x es) = map-append spot_of (notes_in k es) (note at k (piece (call at x es)) ∷ []) ∙ ap (λ l. l ++ spot at Call ∷ []) (trees-found k es)
  tree-found k (block at e ds) =
      let y : Static = in_block ds k in
      map-append spot_of (block_opens ds at k ++ notes y e ++ notes_in_defs y k ds) (block_piece e ds at k)
      ∙ ap (λ l. l ++ found (block_piece e ds at k)) (map-append spot_of (block_opens ds at k ++ notes y e) (notes_in_defs y k ds)
      ∙ ap (λ l. l ++ found (notes_in_defs y k ds)) (map-append spot_of (block_opens ds at k) (notes y e)))
      ∙ (λ j. opens-found at y (freezes ds) j ++ tree-found y e j ++ defs-found y k ds j ++ block-found at k e ds (freezes ds) j)

  trees-found : (k : Static) (es : PlainTrees) → found (notes_in k es) ≡ spots_in es
  trees-found k no_trees = refl
  trees-found k (tree e es) = map-append spot_of (notes k e) (notes_in k es) ∙ (λ j. tree-found k e j ++ trees-found k es j)

  defs-found : (k o : Static) (ds : PlainDefs) → found (notes_in_defs k o ds) ≡ spots_in_defs ds
  defs-found k o no_defs = refl
  defs-found k o (defines at x e ds) =
      map-append spot_of (notes k e) (note at k (plain_right e) ∷ notes_in_defs k o ds) ∙ (λ j. tree-found k e j ++ spot at Name ∷ defs-found k o ds j)
      ∙ sym (append_assoc (spots e) (spot at Name ∷ []) (spots_in_defs ds))
  defs-found k o (defines_function at x ns ats e ds) =
      let y : Static = in_body ns ats k in
      map-append spot_of (note at y opening ∷ parameter_notes y 0 ats ++ notes y e) (notes_in_defs k o ds)
      ∙ ap (λ l. l ++ found (notes_in_defs k o ds)) (map-append spot_of (note at y opening ∷ parameter_notes y 0 ats) (notes y e))
      ∙ (λ j. spot at Scope ∷ parameters-found y 0 ats j ++ tree-found y e j ++ defs-found k o ds j)
  defs-found k o (defines_current at x e ds) =
      map-append spot_of (notes o e) (note at k (current_right e) ∷ notes_in_defs k o ds) ∙ (λ j. tree-found o e j ++ spot at Name ∷ defs-found k o ds j)
      ∙ sym (append_assoc (spots e) (spot at Name ∷ []) (spots_in_defs ds))

-- a definition is found, and then the others
kind-then : (at : ℕ) (n : List ℕ) (x : DefKind) (ds : PlainDefs) → spots_in_defs (def_of at n x ds) ≡ spots_of_def at x ++ spots_in_defs ds
kind-then at n (PlainKind e) ds = refl
kind-then at n (FunctionKind ps ats e) ds = refl
kind-then at n (CurrentKind e) ds = refl

pub def_then : (d : Def) (ds : PlainDefs) → spots_in_defs (one_def d ds) ≡ spots_of_def d.at d.kind ++ spots_in_defs ds
def_then d ds = kind-then d.at d.name d.kind ds

-- the places of what is noted, behind others
abbrev more : RowPlaces → List Note → RowPlaces
more p ns = record {
  nodes = p.nodes ++ places_in (pieces_of ns);
  names = p.names ++ places_in (names_of ns);
  places = p.places ++ places_in (calls_of ns);
  scopes = p.scopes ++ places_in (filter (λ n. is_opening n.kind) ns);
}

one-more : (p : RowPlaces) (at : ℕ) (k : Static) (y : Kind) (ns : List Note) → ((q : RowPlaces) → fold with_spot q (found ns) ≡ more q ns)
    → fold with_spot (with_place (what_of y) at p) (found ns) ≡ more p (note at k y ∷ ns)
one-more p at k opening ns h =
    h _ ∙ (λ j. record (more p ns) { scopes = append_assoc p.scopes (at ∷ []) (places_in (filter (λ n. is_opening n.kind) ns)) j })
one-more p at k (piece (call b x es)) ns h =
    h _
    ∙ (λ j. record (more p ns) {
      nodes = append_assoc p.nodes (at ∷ []) (places_in (pieces_of ns)) j;
      places = append_assoc p.places (at ∷ []) (places_in (calls_of ns)) j;
    })
one-more p at k (piece e) ns h = h _ ∙ (λ j. record (more p ns) { nodes = append_assoc p.nodes (at ∷ []) (places_in (pieces_of ns)) j })
one-more p at k _ ns h = h _ ∙ (λ j. record (more p ns) { names = append_assoc p.names (at ∷ []) (places_in (names_of ns)) j })

all-more : (ns : List Note) (p : RowPlaces) → fold with_spot p (found ns) ≡ more p ns
all-more [] p = λ j. record {
  nodes = sym (append-nil p.nodes) j;
  names = sym (append-nil p.names) j;
  places = sym (append-nil p.places) j;
  scopes = sym (append-nil p.scopes) j;
}
all-more (n ∷ ns) p = one-more p n.at n.home n.kind ns (all-more ns)

callee-at : (at : ℕ) (m : Meaning) → (callee at m).at ≡ at
callee-at at free = refl
callee-at at (plain_name d e k) = refl
callee-at at (parameter d i p k) = refl
callee-at at (current_name d e k o) = refl
callee-at at (function d ns ats e k) = refl

callees-at : (cs : List Note) → places_in (map (λ c. callee c.at (meaning (noted_name c.kind) c.home)) cs) ≡ places_in cs
callees-at [] = refl
callees-at (c ∷ cs) = λ j. callee-at c.at (meaning (noted_name c.kind) c.home) j ∷ callees-at cs j

-- the root's scope alone
abbrev pub begun : RowPlaces
begun = record { nodes = []; names = []; places = []; scopes = 0 ∷ [] }

pub traced : (e : PlainTree) (p q : RowPlaces) → p ≡ fold with_spot begun (spots e) → q ≡ record p { names = p.names ++ p.places } → q ≡ origins_of e
traced e p q h g =
    let ns : List Note = notes outermost e in
    let all : p ≡ more begun ns = h ∙ ap (fold with_spot begun) (sym (tree-found outermost e)) ∙ all-more ns begun in
    let last : places_in (names_of ns) ++ places_in (calls_of ns) ≡ places_in (names e) = ap (λ l. places_in (names_of ns) ++ l) (sym (callees-at (calls e)))
    ∙ sym (map-append (λ n. n.at) (names_of ns) (map (λ c. callee c.at (meaning (noted_name c.kind) c.home)) (calls e))) in
    let closed : RowPlaces → RowPlaces = λ r. record r { names = r.names ++ r.places } in
    g ∙ ap closed all ∙ (λ j. record (more begun ns) { names = last j })
