-- Lists that hold what a resolved tree adds, and the rows of its calls, are a table that is the tree compiled.
use Rattle.lucid_compile.proofs.Common.{◌≡◌, ℕ, zero, suc, ◌+◌, ◌<◌, if◌then◌else◌, length, List, [], ◌∷◌, ◌++◌, Some, None, get_or, slice_get, refl, sym, ap, ◌∙◌, subst, inl, inr, arith, PlainTree, form, name, call, block, PlainTrees, no_trees, tree, PlainDefs, no_defs, defines, defines_function, defines_current, position_or_len, same_name, count, In, in_left, in_right, free, meaning, named, again, site_at, sites, sites_in, outside_sites, inside_sites, Earlier, also, no_names, again_if, repeats, binding_for, fault_of, scoped_binding, scoped_inputs, row, freeze, reference, invoke, node, Equations, plain_entry, called_entry, current_entry, parameter_entry, freezes, level, Origin, Source, call_level, node_for, nodes_for, in_body, HasRow, Parameters, Actuals, Callable, Kept, AllKept, DefsKept, first_place, name_mark, function_mark, call_number, Note, Numbered, bound_node, bound_nodes, callee_place, FunctionStand, Log, with_nodes, with_scopes, opened_block, opened_function, with_stand, with_call, with_function, with_parameters, added, added_all, added_defs, current_right, note, noted_actuals, parameter_number, piece, plain_right, bound_entry, constant_notes, with_constants, Numbers}
use Rattle.lucid_scope.specs.Sites.{Site as NameSite, called}
use Rattle.lucid_compile.specs.Static.{Static, in_block, in_function, reference_of, outermost}
use Rattle.lucid_compile.proofs.Spots.{spots_for, all_spots, def_spots}
use Rattle.lucid_compile.proofs.Scoping.{Agrees, not_some, forget, meaning-bare, IsListed, IsThere, DefsKnown, Known, meaning-known, name-is, Calls, call-is}

-- what stands in a log stands in another
pub record Within (a b : Log) : Type 0 where
  pub names : (s : Note) → In s a.names → In s b.names
  pub calls : (c : Note) → In c a.calls → In c b.calls
  pub functions : (f : FunctionStand) → In f a.functions → In f b.functions

pub within-itself : (a : Log) → Within a a
within-itself a = record { names = λ s i. i; calls = λ s i. i; functions = λ s i. i }

pub within-then : (a b c : Log) → Within a b → Within b c → Within a c
within-then a b c h g = record {
  names = λ s i. g.names s (h.names s i);
  calls = λ s i. g.calls s (h.calls s i);
  functions = λ s i. g.functions s (h.functions s i);
}

pub within-stand : (s : Note) (a : Log) → Within a (with_stand s a)
within-stand s a = record { names = λ x i. in_left x a.names (s ∷ []) i; calls = λ x i. i; functions = λ x i. i }

pub within-nodes : (ss : List Note) (a : Log) → Within a (with_nodes ss a)
within-nodes ss a = record { names = λ x i. i; calls = λ x i. i; functions = λ x i. i }

pub within-scopes : (ks : List Static) (a : Log) → Within a (with_scopes ks a)
within-scopes ks a = record { names = λ x i. i; calls = λ x i. i; functions = λ x i. i }

pub before-nodes : (ss : List Note) (a z : Log) → Within (with_nodes ss a) z → Within a z
before-nodes ss a z i = within-then a (with_nodes ss a) z (within-nodes ss a) i

pub within-constants : (cs : List Note) (a : Log) → Within a (with_constants cs a)
within-constants cs a = record { names = λ x i. i; calls = λ x i. i; functions = λ x i. i }

pub before-form : (ss cs : List Note) (a z : Log) → Within (with_nodes ss (with_constants cs a)) z → Within a z
before-form ss cs a z i = within-then a (with_constants cs a) z (within-constants cs a) (before-nodes ss (with_constants cs a) z i)

pub within-call : (c : Note) (a : Log) → Within a (with_call c a)
within-call c a = record { names = λ x i. i; calls = λ x i. in_left x a.calls (c ∷ []) i; functions = λ x i. i }

pub within-function : (f : FunctionStand) (a : Log) → Within a (with_function f a)
within-function f a = record { names = λ x i. i; calls = λ x i. i; functions = λ x i. in_left x a.functions (f ∷ []) i }

within-parameters : (k : Static) (i : ℕ) (ats : List ℕ) (a : Log) → Within a (with_parameters k i ats a)
within-parameters k i [] a = within-itself a
within-parameters k i (at ∷ ats) a =
    let s : Note = note at k (parameter_number i) in
    within-then a (with_stand s a) _ (within-stand s a) (within-parameters k (suc i) ats (with_stand s a))

mutual
  pub within-tree : (k : Static) (e : PlainTree) (a : Log) → Within a (added k e a)
  within-tree k (form at f es) a =
      let b : Log = added_all k es a in
      let c : Log = with_constants (constant_notes k at f es) b in
      within-then a b _ (within-trees k es a) (within-then b c _ (within-constants _ b) (within-nodes _ c))
  within-tree k (name at x) a = within-nodes _ a
  within-tree k (call at x es) a =
      let b : Log = with_call (note at k (piece (call at x es))) (added_all k es a) in
      within-then a (added_all k es a) _ (within-trees k es a)
      (within-then (added_all k es a) b _ (within-call _ (added_all k es a)) (within-nodes _ b))
  within-tree k (block at e ds) a =
      let o : Log = opened_block ds k a in
      let b : Log = added (in_block ds k) e o in
      let c : Log = added_defs (in_block ds k) k ds b in
      within-then a b _ (within-then a o b (within-scopes _ a) (within-tree (in_block ds k) e o))
      (within-then b c _ (within-defs (in_block ds k) k ds b) (within-nodes _ c))

  pub within-trees : (k : Static) (es : PlainTrees) (a : Log) → Within a (added_all k es a)
  within-trees k no_trees a = within-itself a
  within-trees k (tree e es) a = within-then a (added k e a) _ (within-tree k e a) (within-trees k es (added k e a))

  pub within-defs : (k o : Static) (ds : PlainDefs) (a : Log) → Within a (added_defs k o ds a)
  within-defs k o no_defs a = within-itself a
  within-defs k o (defines at x e ds) a =
      let s : Note = note at k (plain_right e) in
      within-then a (added k e a) _ (within-tree k e a)
      (within-then (added k e a) (with_stand s (added k e a)) _ (within-stand s (added k e a)) (within-defs k o ds (with_stand s (added k e a))))
  within-defs k o (defines_function at x ns ats e ds) a =
      let h : Static = in_body ns ats k in
      let f : FunctionStand = record { at = at; first = length a.names; names = ns; places = ats; right = e; home = k } in
      let u : Log = opened_function ns ats k a in
      let b : Log = with_parameters h 0 ats u in
      within-then a b _ (within-then a u b (within-scopes _ a) (within-parameters h 0 ats u))
      (within-then b (added h e b) _ (within-tree h e b)
      (within-then (added h e b) (with_function f (added h e b)) _ (within-function f (added h e b))
      (within-defs k o ds (with_function f (added h e b)))))
  within-defs k o (defines_current at x e ds) a =
      let s : Note = note at k (current_right e) in
      within-then a (added o e a) _ (within-tree o e a)
      (within-then (added o e a) (with_stand s (added o e a)) _ (within-stand s (added o e a)) (within-defs k o ds (with_stand s (added o e a))))

-- What a whole log `z` has, by the lists that hold it: each name its level, each function its mark.
pub record IsWhole (w : Numbered) (z : Log) : Type 0 where
  pub names : (s : Note) → In s z.names → IsListed w.numbering z.names s.at s.home
  pub functions : (f : FunctionStand) → In f z.functions → IsThere w.numbering z.names z.functions (λ _ _. Unit {0}) f

read : (xs : List (List ℕ)) (j : ℕ) (x : List ℕ) → slice_get xs j ≡ Some x → get_or xs j [] ≡ x
read [] j x e = absurd (not_some x (sym e))
read (y ∷ xs) zero x e = cc
read (y ∷ xs) (suc j) x e = read xs j x e

-- the sites of names are bound, at no fault, and a free one leads to its input
abbrev pub Leads : List (List ℕ) → NameSite → Type 0
Leads inputs (named at x k) = meaning x k ≡ free → slice_get inputs (position_or_len (same_name x) inputs) ≡ Some x
Leads inputs (called at x n k) = Unit {0}
Leads inputs (again at) = Unit {0}

abbrev pub AreFit : Numbered → List NameSite → Type 0
AreFit w ss = (s : NameSite) → In s ss → (scoped_binding w.scoped (site_at s) ≡ binding_for (scoped_inputs w.scoped) s) × (fault_of s ≡ None)
    × Leads (scoped_inputs w.scoped) s

pub fit-left : (w : Numbered) (xs ys : List NameSite) → AreFit w (xs ++ ys) → AreFit w xs
fit-left w xs ys h = λ s i. h s (in_left s xs ys i)

pub fit-right : (w : Numbered) (xs ys : List NameSite) → AreFit w (xs ++ ys) → AreFit w ys
fit-right w xs ys h = λ s i. h s (in_right s xs ys i)

abbrev pub Nothing : PlainTree → Static → Type 0
Nothing e k = Unit {0}

abbrev pub Same : Numbered → Numbers → PlainTree → Static → Type 0
Same w nu e k = bound_node w e ≡ node_for nu k e

-- numbers that go by a log
pub record GoesBy (w : Numbered) (z : Log) (nu : Numbers) : Type 0 where
  pub names : Agrees nu z.names
  pub calls : (c : Note) → In c z.calls → nu.name c.at ≡ (name_mark w.numbering c.at).number
  pub places : (c : Note) → In c z.calls → nu.place (noted_actuals c.kind) ≡ call_number w.numbering (first_place (noted_actuals c.kind))

module _ (w : Numbered) (z : Log) (whole : IsWhole w z) where
  -- what is known of the right sides of a block's functions
  abbrev pub Rights : (R : PlainTree → Static → Type 0) → Static → PlainDefs → Type 0
  Rights R k no_defs = Unit {0}
  Rights R k (defines at x e ds) = Rights R k ds
  Rights R k (defines_function at x ns ats e ds) = R e (in_body ns ats k) × Rights R k ds
  Rights R k (defines_current at x e ds) = Rights R k ds

  pub no-rights : (k : Static) (ds : PlainDefs) → Rights Nothing k ds
  no-rights k no_defs = tt
  no-rights k (defines at x e ds) = no-rights k ds
  no-rights k (defines_function at x ns ats e ds) = (tt, no-rights k ds)
  no-rights k (defines_current at x e ds) = no-rights k ds

  last-name : (s : Note) (a b : Log) → Within (with_stand s a) b → In s b.names
  last-name s a b h = h.names s (in_right s a.names (s ∷ []) (inl refl))

  last-function : (f : FunctionStand) (a b : Log) → Within (with_function f a) b → In f b.functions
  last-function f a b h = h.functions f (in_right f a.functions (f ∷ []) (inl refl))

  there-with : (R : PlainTree → Static → Type 0) (f : FunctionStand) → In f z.functions → R f.right (in_body f.names f.places f.home)
      → IsThere w.numbering z.names z.functions R f
  there-with R f i r = let h = whole.functions f i in record { depth = h.depth; parameters = h.parameters; found = h.found; counts = h.counts; right_is = r }

  pub defs-known : (R : PlainTree → Static → Type 0) (k o : Static) (ds : PlainDefs) (a : Log) → Within (added_defs k o ds a) z → Rights R k ds
      → DefsKnown w.numbering z.names z.functions R k ds
  defs-known R k o no_defs a h r = tt
  defs-known R k o (defines at x e ds) a h r =
      let s : Note = note at k (plain_right e) in
      let b : Log = with_stand s (added k e a) in
      (whole.names s (last-name s (added k e a) z (within-then b (added_defs k o ds b) z (within-defs k o ds b) h)), defs-known R k o ds b h r)
  defs-known R k o (defines_function at x ns ats e ds) a h r =
      let f : FunctionStand = record { at = at; first = length a.names; names = ns; places = ats; right = e; home = k } in
      let c : Log = added (in_body ns ats k) e (with_parameters (in_body ns ats k) 0 ats (opened_function ns ats k a)) in
      let b : Log = with_function f c in (
        (length a.names, there-with R f (last-function f c z (within-then b (added_defs k o ds b) z (within-defs k o ds b) h)) r.0),
        defs-known R k o ds b h
            r.1,
      )
  defs-known R k o (defines_current at x e ds) a h r =
      let s : Note = note at k (current_right e) in
      let b : Log = with_stand s (added o e a) in
      (whole.names s (last-name s (added o e a) z (within-then b (added_defs k o ds b) z (within-defs k o ds b) h)), defs-known R k o ds b h r)

  pub function-known : (R : PlainTree → Static → Type 0) (k : Static) (at n : ℕ) (ns : List (List ℕ)) (ats : List ℕ) (e : PlainTree)
      → IsThere w.numbering z.names z.functions R (record { at = at; first = n; names = ns; places = ats; right = e; home = forget k })
      → Known w.numbering z.names z.functions R k → Known w.numbering z.names z.functions R (in_function at ns ats k)
  function-known R k at n ns ats e t h = (t.parameters, t.depth, h)

  module _ (nu : Numbers) (by : GoesBy w z nu) where
    mutual
      pub node-is : (k : Static) (e : PlainTree) (a : Log) → AreFit w (sites k e) → Known w.numbering z.names z.functions Nothing k
          → Within (added (forget k) e a) z → bound_node w e ≡ node_for nu (forget k) e
      node-is k (form at f es) a h s i = ap (row f) (nodes-are k es a h s (before-form _ _ _ z i))
      node-is k (name at x) a h s i =
          let fit = h (named at x k) (inl refl) in
          ap reference (name-is w z.names z.functions Nothing (level (forget k)) at x (scoped_inputs w.scoped) (scoped_binding w.scoped at) (meaning x k) fit.0
          fit.1
          (λ q. read (scoped_inputs w.scoped) (position_or_len (same_name x) (scoped_inputs w.scoped)) x (fit.2 q))
          (meaning-known w.numbering z.names z.functions Nothing x k s) nu by.names ∙ ap (reference_of nu (level (forget k)) x) (sym (meaning-bare x k)))
      node-is k (call at x es) a h s i =
          let fit = h (called at x (count es) k) (inl refl) in
          let c = call-is w z.names z.functions Nothing at (count es) x (scoped_inputs w.scoped) (scoped_binding w.scoped at) (meaning x k) fit.0 fit.1
          (meaning-known w.numbering z.names z.functions Nothing x k s) in
          let v : Note = note at (forget k) (piece (call at x es)) in
          let there : In v z.calls = i.calls v (in_right v (added_all (forget k) es a).calls (v ∷ []) (inl refl)) in
          let deep : (function_mark w.numbering (callee_place (scoped_binding w.scoped at))).level ≡ call_level (level (forget k)) (meaning x (forget k)) =
          ap (λ p. (function_mark w.numbering p).level) c.place ∙ c.there.depth ∙ sym (ap (call_level (level (forget k))) (meaning-bare x k ∙ c.is)) in
          λ j. invoke (sym (by.calls v there) j) (sym (by.places v there) j) (deep j)
      node-is k (block at e ds) a h s i =
          let q : Static = in_block ds k in
          let u : Log = opened_block ds (forget k) a in
          let b : Log = added (forget q) e u in
          let inside = fit-right w (outside_sites k ds) _ h in
          let on : Within (added_defs (forget q) (forget k) ds b) z = before-nodes _ _ z i in
          let known : Known w.numbering z.names z.functions Nothing q = (defs-known Nothing (forget q) (forget k) ds b on (no-rights (forget q) ds), s) in
          let part : bound_node w e ≡ node_for nu (forget q) e =
          node-is q e u (fit-left w (sites q e) _ inside) known (within-then b _ z (within-defs (forget q) (forget k) ds b) on) in
          λ j. if freezes ds then freeze (part j) else part j

      nodes-are : (k : Static) (es : PlainTrees) (a : Log) → AreFit w (sites_in k es) → Known w.numbering z.names z.functions Nothing k
          → Within (added_all (forget k) es a) z → bound_nodes w es ≡ nodes_for nu (forget k) es
      nodes-are k no_trees a h s i = refl
      nodes-are k (tree e es) a h s i =
          let b : Log = added (forget k) e a in
          λ j. node (node-is k e a (fit-left w (sites k e) (sites_in k es) h) s (within-then b _ z (within-trees (forget k) es b) i) j)
          (nodes-are k es b (fit-right w (sites k e) (sites_in k es) h) s i j)

    -- the right sides of a block's functions are what they become
    rights-are : (k : Static) (o : Static) (earlier : Earlier) (ds : PlainDefs) (a : Log) → AreFit w (inside_sites k earlier ds)
        → Known w.numbering z.names z.functions Nothing k → DefsKnown w.numbering z.names z.functions Nothing (forget k) ds
        → Within (added_defs (forget k) o ds a) z → Rights (Same w nu) (forget k) ds
    rights-are k o earlier no_defs a h s d i = tt
    rights-are k o earlier (defines at x e ds) a h s d i =
        rights-are k o (also x earlier) ds _ (fit-right w (sites k e) _ (fit-right w (again_if (earlier x) at) _ h)) s d.1 i
    rights-are k o earlier (defines_function at x ns ats e ds) a h s d i =
        let own = fit-right w (again_if (earlier x) at) _ h in
        let q : Static = in_function at ns ats k in
        let f : FunctionStand = record { at = at; first = length a.names; names = ns; places = ats; right = e; home = forget k } in
        let b : Log = with_parameters (forget q) 0 ats (opened_function ns ats (forget k) a) in
        let c : Log = added (forget q) e b in
        let on : Within c z = within-then c (with_function f c) z (within-function f c)
        (within-then (with_function f c) _ z (within-defs (forget k) o ds (with_function f c)) i) in (
          node-is q e b (fit-right w (repeats no_names ns ats) (sites q e) (fit-left w _ (inside_sites k (also x earlier) ds) own))
              (function-known Nothing k at d.0.0 ns ats e d.0.1 s) on,
          rights-are k o (also x earlier) ds _ (fit-right w _ (inside_sites k (also x earlier) ds) own)
              s d.1 i,
        )
    rights-are k o earlier (defines_current at x e ds) a h s d i = rights-are k o (also x earlier) ds _ (fit-right w (again_if (earlier x) at) _ h) s d.1 i

    -- Where what is known goes with the right sides, so does less.
    less-there : (f : FunctionStand) → IsThere w.numbering z.names z.functions (Same w nu) f → IsThere w.numbering z.names z.functions Nothing f
    less-there f t = record { depth = t.depth; parameters = t.parameters; found = t.found; counts = t.counts; right_is = tt }

    less-defs : (k : Static) (ds : PlainDefs) → DefsKnown w.numbering z.names z.functions (Same w nu) k ds → DefsKnown w.numbering z.names z.functions Nothing k ds
    less-defs k no_defs h = tt
    less-defs k (defines at x e ds) h = (h.0, less-defs k ds h.1)
    less-defs k (defines_function at x ns ats e ds) h = ((h.0.0, less-there _ h.0.1), less-defs k ds h.1)
    less-defs k (defines_current at x e ds) h = (h.0, less-defs k ds h.1)

    less-known : (k : Static) → Known w.numbering z.names z.functions (Same w nu) k → Known w.numbering z.names z.functions Nothing k
    less-known outermost h = tt
    less-known (in_block ds k) h = (less-defs (in_block ds (forget k)) ds h.0, less-known k h.1)
    less-known (in_function d ns ats k) h = (h.0, h.1, less-known k h.2)

    module _ (so : Source) (p : Equations)
        (have : (s : Note) → In s z.names → HasRow nu so p s.at s.home (bound_entry w s.kind))
        (have-call : (c : Note) (f : FunctionStand) → In c z.calls → callee_place (scoped_binding w.scoped c.at) ≡ f.at
        → IsThere w.numbering z.names z.functions (Same w nu) f
        → HasRow nu so p c.at (in_body f.names f.places f.home) (called_entry (bound_node w f.right)))
        (have-place : (c : Note) → In c z.calls → bound_nodes w (noted_actuals c.kind) ≡ nodes_for nu c.home (noted_actuals c.kind)
        → Actuals nu so p c.home (noted_actuals c.kind)) where
      abbrev HaveSpots : List Origin → Type 0
      HaveSpots os = (o : Origin) → In o os → so.scope_at o.at ≡ o.home

      spots-left : (xs ys : List Origin) → HaveSpots (xs ++ ys) → HaveSpots xs
      spots-left xs ys h = λ r i. h r (in_left r xs ys i)

      spots-right : (xs ys : List Origin) → HaveSpots (xs ++ ys) → HaveSpots ys
      spots-right xs ys h = λ r i. h r (in_right r xs ys i)

      spots-later : (o : Origin) (os : List Origin) → HaveSpots (o ∷ os) → HaveSpots os
      spots-later o os h = λ r i. h r (inr i)

      parameters-from : (k : Static) (i : ℕ) (ats : List ℕ) (a : Log) → Within (with_parameters k i ats a) z → (j : ℕ) → j < length ats
          → HasRow nu so p (get_or ats j 0) k (parameter_entry (i + j))
      parameters-from k i [] a h j b = absurd (omega arith)
      parameters-from k i (at ∷ ats) a h zero b =
          let s : Note = note at k (parameter_number i) in
          let e : i ≡ i + 0 = omega arith in
          subst (λ y. HasRow nu so p at k (parameter_entry y)) e
          (have s (last-name s a z (within-then (with_stand s a) _ z (within-parameters k (suc i) ats (with_stand s a)) h)))
      parameters-from k i (at ∷ ats) a h (suc j) b =
          let e : suc i + j ≡ i + suc j = omega arith in
          subst (λ y. HasRow nu so p (get_or ats j 0) k (parameter_entry y)) e (parameters-from k (suc i) ats _ h j (omega arith))

      parameters-kept : (ats : List ℕ) (k : Static) (ns : List (List ℕ)) (a : Log) → length ns ≡ length ats → Within (with_parameters k 0 ats a) z
          → Parameters nu so p ns ats k
      parameters-kept ats k ns a count h j b =
          let e : 0 + j ≡ j = omega arith in
          subst (λ y. HasRow nu so p (get_or ats j 0) k (parameter_entry y)) e (parameters-from k 0 ats a h j (omega (arith, b, count)))

      call-kept : (k : Static) (at : ℕ) (x : List ℕ) (c : Note) → c.at ≡ at → In c z.calls
          → Calls w z.names z.functions (Same w nu) (scoped_binding w.scoped at) (meaning x k) → Callable nu so p at (meaning x (forget k))
      call-kept k at x c e i q =
          subst (Callable nu so p at) (sym (meaning-bare x k ∙ q.is))
          (subst (λ n. HasRow nu so p at (in_body q.stand.names q.stand.places q.stand.home) (called_entry n)) q.there.right_is
          (subst (λ b. HasRow nu so p b (in_body q.stand.names q.stand.places q.stand.home) (called_entry (bound_node w q.stand.right))) e
          (have-call c q.stand i (ap (λ b. callee_place (scoped_binding w.scoped b)) e ∙ q.place) q.there)))

      mutual
        pub kept-bound : (k : Static) (e : PlainTree) (a : Log) → AreFit w (sites k e) → Known w.numbering z.names z.functions (Same w nu) k
            → Within (added (forget k) e a) z → HaveSpots (spots_for (forget k) e) → Kept nu so p (forget k) e
        kept-bound k (form at f es) a h s i o = (all-bound k es a h s (before-form _ _ _ z i) (spots-later _ _ o), o _ (inl refl))
        kept-bound k (name at x) a h s i o = o _ (inl refl)
        kept-bound k (call at x es) a h s i o =
            let fit = h (called at x (count es) k) (inl refl) in
            let c : Note = note at (forget k) (piece (call at x es)) in
            let b : Log = added_all (forget k) es a in
            let parts = λ (y : NameSite) (q : In y (sites_in k es)). h y (inr q) in
            let q = call-is w z.names z.functions (Same w nu) at (count es) x (scoped_inputs w.scoped) (scoped_binding w.scoped at) (meaning x k) fit.0 fit.1
            (meaning-known w.numbering z.names z.functions (Same w nu) x k s) in
            let on : Within b z = within-then b (with_call c b) z (within-call c b) (before-nodes _ _ z i) in
            let there : In c z.calls = i.calls c (in_right c b.calls (c ∷ []) (inl refl)) in (
              call-kept k at x c refl there q,
              have-place c there (nodes-are k es a parts (less-known k s) on),
              all-bound k es a parts s on (spots-later _ _ o),
              o
                  _ (inl refl),
            )
        kept-bound k (block at e ds) a h s i o =
            let q : Static = in_block ds k in
            let u : Log = opened_block ds (forget k) a in
            let b : Log = added (forget q) e u in
            let outside = fit-left w (outside_sites k ds) _ h in
            let inside = fit-right w (outside_sites k ds) _ h in
            let defs = fit-right w (sites q e) _ inside in
            let on : Within (added_defs (forget q) (forget k) ds b) z = before-nodes _ _ z i in
            let less : Known w.numbering z.names z.functions Nothing q =
            (defs-known Nothing (forget q) (forget k) ds b on (no-rights (forget q) ds), less-known k s) in
            let rights = rights-are q (forget k) no_names ds b defs less less.0 on in
            let known : Known w.numbering z.names z.functions (Same w nu) q = (defs-known (Same w nu) (forget q) (forget k) ds b on rights, s) in (
              kept-bound q e u (fit-left w (sites q e) _ inside) known (within-then b _ z (within-defs (forget q) (forget k) ds b) on)
                  (spots-left (spots_for (forget q) e) _ (spots-later _ _ o)),
              defs-bound q k no_names ds b outside defs known known.0 s on
                  (spots-right (spots_for (forget q) e) _ (spots-later _ _ o)),
              o _ (inl refl),
            )

        all-bound : (k : Static) (es : PlainTrees) (a : Log) → AreFit w (sites_in k es) → Known w.numbering z.names z.functions (Same w nu) k
            → Within (added_all (forget k) es a) z → HaveSpots (all_spots (forget k) es) → AllKept nu so p (forget k) es
        all-bound k no_trees a h s i o = tt
        all-bound k (tree e es) a h s i o =
            let b : Log = added (forget k) e a in (
              kept-bound k e a (fit-left w (sites k e) (sites_in k es) h) s (within-then b _ z (within-trees (forget k) es b) i)
                  (spots-left (spots_for (forget k) e) _ o),
              all-bound k es b (fit-right w (sites k e) (sites_in k es) h) s i
                  (spots-right (spots_for (forget k) e) _ o),
            )

        defs-bound : (k q : Static) (earlier : Earlier) (ds : PlainDefs) (a : Log) → AreFit w (outside_sites q ds) → AreFit w (inside_sites k earlier ds)
            → Known w.numbering z.names z.functions (Same w nu) k → DefsKnown w.numbering z.names z.functions (Same w nu) (forget k) ds
            → Known w.numbering z.names z.functions (Same w nu) q
            → Within (added_defs (forget k) (forget q) ds a) z → HaveSpots (def_spots (forget k) (forget q) ds)
            → DefsKept nu so p (forget k) (forget q) ds
        defs-bound k q earlier no_defs a out h s d t i o = tt
        defs-bound k q earlier (defines at x e ds) a out h s d t i o =
            let v : Note = note at (forget k) (plain_right e) in
            let c : Log = added (forget k) e a in
            let b : Log = with_stand v c in
            let on : Within b z = within-then b _ z (within-defs (forget k) (forget q) ds b) i in
            let own = fit-right w (again_if (earlier x) at) _ h in
            let part = fit-left w (sites k e) _ own in
            let before : Within c z = within-then c b z (within-stand v c) on in (
              subst (λ n. HasRow nu so p at (forget k) (plain_entry n)) (node-is k e a part (less-known k s) before) (have v (last-name v c z on)),
              kept-bound k e a part s before (spots-left (spots_for (forget k) e) _ o),
              defs-bound k q (also x earlier) ds b out (fit-right w (sites k e) _ own)
                  s d.1 t i (spots-right (spots_for (forget k) e) _ o),
            )
        defs-bound k q earlier (defines_function at x ns ats e ds) a out h s d t i o =
            let v : Static = in_function at ns ats k in
            let f : FunctionStand = record { at = at; first = length a.names; names = ns; places = ats; right = e; home = forget k } in
            let u : Log = opened_function ns ats (forget k) a in
            let c : Log = with_parameters (forget v) 0 ats u in
            let l : Log = added (forget v) e c in
            let b : Log = with_function f l in
            let on : Within b z = within-then b _ z (within-defs (forget k) (forget q) ds b) i in
            let before : Within l z = within-then l b z (within-function f l) on in
            let first : Within c z = within-then c l z (within-tree (forget v) e c) before in
            let own = fit-right w (again_if (earlier x) at) _ h in
            let part = fit-right w (repeats no_names ns ats) (sites v e) (fit-left w _ (inside_sites k (also x earlier) ds) own) in (
              parameters-kept ats (forget v) ns u d.0.1.counts first,
              kept-bound v e c part (function-known (Same w nu) k at d.0.0 ns ats e d.0.1 s) before
                  (spots-left (spots_for (forget v) e) _ o),
              defs-bound k q (also x earlier) ds b out (fit-right w _ (inside_sites k (also x earlier) ds) own) s d.1
                  t i (spots-right (spots_for (forget v) e) _ o),
            )
        defs-bound k q earlier (defines_current at x e ds) a out h s d t i o =
            let v : Note = note at (forget k) (current_right e) in
            let c : Log = added (forget q) e a in
            let b : Log = with_stand v c in
            let on : Within b z = within-then b _ z (within-defs (forget k) (forget q) ds b) i in
            let part = fit-left w (sites q e) _ out in
            let before : Within c z = within-then c b z (within-stand v c) on in (
              subst (λ n. HasRow nu so p at (forget k) (current_entry n)) (node-is q e a part (less-known q t) before) (have v (last-name v c z on)),
              kept-bound q e a part t before (spots-left (spots_for (forget q) e) _ o),
              defs-bound k q (also x earlier) ds b (fit-right w (sites q e) _ out)
                  (fit-right w (again_if (earlier x) at) _ h) s d.1 t i (spots-right (spots_for (forget q) e) _ o),
            )
