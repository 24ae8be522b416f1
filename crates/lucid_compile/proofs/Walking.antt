-- What trees add to a log is what the walk over them notes, each list of it those of a kind.
use Rattle.lucid_compile.proofs.Common.{◌≡◌, ℕ, suc, Bool, true, false, if◌then◌else◌, List, [], ◌∷◌, ◌++◌, length, map, refl, sym, ap, ◌∙◌, append_assoc, map-append, Head, const, PlainTree, form, name, call, block, PlainTrees, no_trees, tree, PlainDefs, no_defs, defines, defines_function, defines_current, freezes, in_body, Begins, FunctionStand, Log, with_nodes, with_constants, with_scopes, with_stand, with_call, with_function, with_parameters, block_scopes, constant_notes, opened_block, opened_function, added, added_all, added_defs, Note, note, opening, piece, plain_right, current_right, parameter_number, parameter_notes}
use Rattle.std.specs.Prelude.{filter}
use Rattle.std.proofs.lemmas.List.{append-nil}
use Rattle.std.proofs.lemmas.List.Elements.{filter-append}
use Rattle.lucid_compile.specs.Static.{Static, in_block}
use Rattle.lucid_compile.specs.Notes.{block_opens, notes, notes_in, notes_in_defs, is_opening, is_piece, is_constant, is_call, is_name}

-- the notes of a kind, and what is in scope from the scopes on that are noted
abbrev pub names_of : List Note → List Note
names_of ns = filter (λ n. is_name n.kind) ns

abbrev pub calls_of : List Note → List Note
calls_of ns = filter (λ n. is_call n.kind) ns

abbrev pub pieces_of : List Note → List Note
pieces_of ns = filter (λ n. is_piece n.kind) ns

abbrev pub constants_of : List Note → List Note
constants_of ns = filter (λ n. is_constant n.kind) ns

abbrev pub scopes_of : List Note → List Static
scopes_of ns = map (λ n. n.home) (filter (λ n. is_opening n.kind) ns)

scopes-append : (xs ys : List Note) → scopes_of (xs ++ ys) ≡ scopes_of xs ++ scopes_of ys
scopes-append xs ys = ap (map (λ n. n.home)) (filter-append (λ n. is_opening n.kind) xs ys) ∙ map-append (λ n. n.home) (filter (λ n. is_opening n.kind) xs) (filter (λ n. is_opening n.kind) ys)

-- a log has what an earlier one has, and what was noted since then
pub record Logs (g n : Log) (ns : List Note) : Type 0 where
  pub names : n.names ≡ g.names ++ names_of ns
  pub calls : n.calls ≡ g.calls ++ calls_of ns
  pub nodes : n.nodes ≡ g.nodes ++ pieces_of ns
  pub constants : n.constants ≡ g.constants ++ constants_of ns
  pub scopes : n.scopes ≡ g.scopes ++ scopes_of ns

joined : {A : Type 0} (f : List Note → List A) → ((xs ys : List Note) → f (xs ++ ys) ≡ f xs ++ f ys) → (a b c : List A) (xs ys : List Note) → b ≡ a ++ f xs
    → c ≡ b ++ f ys → c ≡ a ++ f (xs ++ ys)
joined f h a b c xs ys p q = q ∙ ap (λ l. l ++ f ys) p ∙ append_assoc a (f xs) (f ys) ∙ ap (λ l. a ++ l) (sym (h xs ys))

logs-then : (g m n : Log) (xs ys : List Note) → Logs g m xs → Logs m n ys → Logs g n (xs ++ ys)
logs-then g m n xs ys a b = record {
  names = joined names_of (filter-append (λ n. is_name n.kind)) g.names m.names n.names xs ys a.names b.names;
  calls = joined calls_of (filter-append (λ n. is_call n.kind)) g.calls m.calls n.calls xs ys a.calls b.calls;
  nodes = joined pieces_of (filter-append (λ n. is_piece n.kind)) g.nodes m.nodes n.nodes xs ys a.nodes b.nodes;
  constants = joined constants_of (filter-append (λ n. is_constant n.kind)) g.constants m.constants n.constants xs ys a.constants b.constants;
  scopes = joined scopes_of scopes-append g.scopes m.scopes n.scopes xs ys a.scopes b.scopes;
}

logs-none : (g : Log) → Logs g g []
logs-none g = record {
  names = sym (append-nil g.names);
  calls = sym (append-nil g.calls);
  nodes = sym (append-nil g.nodes);
  constants = sym (append-nil g.constants);
  scopes = sym (append-nil g.scopes);
}

logs-function : (f : FunctionStand) (g : Log) → Logs g (with_function f g) []
logs-function f g = let n = logs-none g in record { names = n.names; calls = n.calls; nodes = n.nodes; constants = n.constants; scopes = n.scopes }

logs-plain : (at : ℕ) (k : Static) (e : PlainTree) (g : Log) → Logs g (with_stand (note at k (plain_right e)) g) (note at k (plain_right e) ∷ [])
logs-plain at k e g = let n = logs-none g in record { names = refl; calls = n.calls; nodes = n.nodes; constants = n.constants; scopes = n.scopes }

logs-current : (at : ℕ) (k : Static) (e : PlainTree) (g : Log) → Logs g (with_stand (note at k (current_right e)) g) (note at k (current_right e) ∷ [])
logs-current at k e g = let n = logs-none g in record { names = refl; calls = n.calls; nodes = n.nodes; constants = n.constants; scopes = n.scopes }

logs-parameter : (at : ℕ) (k : Static) (i : ℕ) (g : Log) → Logs g (with_stand (note at k (parameter_number i)) g) (note at k (parameter_number i) ∷ [])
logs-parameter at k i g = let n = logs-none g in record { names = refl; calls = n.calls; nodes = n.nodes; constants = n.constants; scopes = n.scopes }

logs-parameters : (k : Static) (i : ℕ) (ats : List ℕ) (g : Log) → Logs g (with_parameters k i ats g) (parameter_notes k i ats)
logs-parameters k i [] g = logs-none g
logs-parameters k i (at ∷ ats) g =
    let m : Log = with_stand (note at k (parameter_number i)) g in
    logs-then g m _ (note at k (parameter_number i) ∷ []) (parameter_notes k (suc i) ats) (logs-parameter at k i g) (logs-parameters k (suc i) ats m)

logs-form : (k : Static) (at : ℕ) (f : Head) (es : PlainTrees) (g : Log)
    → Logs g (with_nodes (note at k (piece (form at f es)) ∷ []) (with_constants (constant_notes k at f es) g)) (note at k (piece (form at f es)) ∷ [])
logs-form k at (const v) es g = let n = logs-none g in record { names = n.names; calls = n.calls; nodes = refl; constants = refl; scopes = n.scopes }
logs-form k at f es g = let n = logs-none g in record { names = n.names; calls = n.calls; nodes = refl; constants = refl; scopes = n.scopes }

logs-name : (k : Static) (at : ℕ) (x : List ℕ) (g : Log) → Logs g (with_nodes (note at k (piece (name at x)) ∷ []) g) (note at k (piece (name at x)) ∷ [])
logs-name k at x g = let n = logs-none g in record { names = n.names; calls = n.calls; nodes = refl; constants = n.constants; scopes = n.scopes }

logs-call : (k : Static) (at : ℕ) (x : List ℕ) (es : PlainTrees) (g : Log)
    → Logs g (with_nodes (note at k (piece (call at x es)) ∷ []) (with_call (note at k (piece (call at x es))) g)) (note at k (piece (call at x es)) ∷ [])
logs-call k at x es g = let n = logs-none g in record { names = n.names; calls = refl; nodes = refl; constants = n.constants; scopes = n.scopes }

logs-opened : (at : ℕ) (k : Static) (b : Bool) (g : Log) → Logs g (with_scopes (block_scopes b k) g) (if b then note at k opening ∷ [] else [])
logs-opened at k true g = let n = logs-none g in record { names = n.names; calls = n.calls; nodes = n.nodes; constants = n.constants; scopes = refl }
logs-opened at k false g = let n = logs-none g in record { names = n.names; calls = n.calls; nodes = n.nodes; constants = n.constants; scopes = refl }

logs-block : (k : Static) (at : ℕ) (e : PlainTree) (ds : PlainDefs) (b : Bool) (g : Log)
    → Logs g (with_nodes (if b then note at k (piece (block at e ds)) ∷ [] else []) g) (if b then note at k (piece (block at e ds)) ∷ [] else [])
logs-block k at e ds true g = let n = logs-none g in record { names = n.names; calls = n.calls; nodes = refl; constants = n.constants; scopes = n.scopes }
logs-block k at e ds false g = let n = logs-none g in record { names = n.names; calls = n.calls; nodes = refl; constants = n.constants; scopes = n.scopes }

mutual
  pub logs-tree : (k : Static) (e : PlainTree) (g : Log) → Logs g (added k e g) (notes k e)
  logs-tree k (form at f es) g = logs-then g (added_all k es g) _ (notes_in k es) _ (logs-trees k es g) (logs-form k at f es (added_all k es g))
  logs-tree k (name at x) g = logs-name k at x g
  logs-tree k (call at x es) g = logs-then g (added_all k es g) _ (notes_in k es) _ (logs-trees k es g) (logs-call k at x es (added_all k es g))
  logs-tree k (block at e ds) g =
      let y : Static = in_block ds k in
      let o : Log = opened_block ds k g in
      let b : Log = added y e o in
      let c : Log = added_defs y k ds b in
      let inside : Logs g b (block_opens ds at k ++ notes y e) = logs-then g o b _ (notes y e) (logs-opened at y (freezes ds) g) (logs-tree y e o) in
      logs-then g c _ _ _ (logs-then g b c _ (notes_in_defs y k ds) inside (logs-defs y k ds b)) (logs-block k at e ds (freezes ds) c)

  pub logs-trees : (k : Static) (es : PlainTrees) (g : Log) → Logs g (added_all k es g) (notes_in k es)
  logs-trees k no_trees g = logs-none g
  logs-trees k (tree e es) g = logs-then g (added k e g) _ (notes k e) (notes_in k es) (logs-tree k e g) (logs-trees k es (added k e g))

  pub logs-defs : (k o : Static) (ds : PlainDefs) (g : Log) → Logs g (added_defs k o ds g) (notes_in_defs k o ds)
  logs-defs k o no_defs g = logs-none g
  logs-defs k o (defines at x e ds) g =
      let b : Log = added k e g in
      let c : Log = with_stand (note at k (plain_right e)) b in
      logs-then g b _ (notes k e) _ (logs-tree k e g)
      (logs-then b c _ (note at k (plain_right e) ∷ []) (notes_in_defs k o ds) (logs-plain at k e b) (logs-defs k o ds c))
  logs-defs k o (defines_function at x ns ats e ds) g =
      let y : Static = in_body ns ats k in
      let u : Log = opened_function ns ats k g in
      let b : Log = with_parameters y 0 ats u in
      let c : Log = added y e b in
      let f : FunctionStand = record { at = at; first = length g.names; names = ns; places = ats; right = e; home = k } in
      let l : Log = with_function f c in
      let first : Logs g b (note at y opening ∷ parameter_notes y 0 ats) =
      logs-then g u b (note at y opening ∷ []) (parameter_notes y 0 ats) (logs-opened at y true g) (logs-parameters y 0 ats u) in
      logs-then g c _ _ (notes_in_defs k o ds) (logs-then g b c _ (notes y e) first (logs-tree y e b))
      (logs-then c l _ [] (notes_in_defs k o ds) (logs-function f c) (logs-defs k o ds l))
  logs-defs k o (defines_current at x e ds) g =
      let b : Log = added o e g in
      let c : Log = with_stand (note at k (current_right e)) b in
      logs-then g b _ (notes o e) _ (logs-tree o e g)
      (logs-then b c _ (note at k (current_right e) ∷ []) (notes_in_defs k o ds) (logs-current at k e b) (logs-defs k o ds c))

-- so the nodes of a log begin those of a later one
pub nodes-trees : (k : Static) (es : PlainTrees) (g : Log) → Begins g.nodes (added_all k es g).nodes
nodes-trees k es g = (pieces_of (notes_in k es), (logs-trees k es g).nodes)

pub nodes-defs : (k o : Static) (ds : PlainDefs) (g : Log) → Begins g.nodes (added_defs k o ds g).nodes
nodes-defs k o ds g = (pieces_of (notes_in_defs k o ds), (logs-defs k o ds g).nodes)
