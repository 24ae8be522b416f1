-- A depth that is enough by potentials is enough.
use Rattle.lucid_cycles.proofs.Common.{◌≡◌, ℕ, zero, suc, ◌+◌, ◌*◌, ◌<◌, ◌≤◌, true, false, cond, List, [], ◌++◌, Option, Some, refl, sym, subst, arith, IsSome, ℤ, pos, ◌+ℤ◌, ◌≤ℤ◌, All, ints, All-head, PlainValue, truth, fault, Head, first, next, fby, PlainTree, form, name, call, block, PlainTrees, no_trees, tree, PlainDefs, no_defs, defines, defines_function, defines_current, gives, by_test, look, Reader, run, Binding, Plain, Edge, is_judged, outside, outside_in, outside_in_defs, plain_names, Bindings, edge_to, edges, edges_in, edges_in_defs, first_delay, later_delay, number, graph, potential, Falls, Adds, HasParts, HaveParts, DefsHaveParts, EnoughIsEnough, ◌-ℤ◌}
use Rattle.std.proofs.Common.{None, nat_lt}
use Rattle.lucid_ops.specs.Algebra.{algebra}
use Rattle.lucid_tree.specs.Tree.{const, apply, choose, both, either}
use Rattle.lucid_tree.specs.Size.{count}
use Rattle.lucid_tree.specs.Rows.{last, gives_part, only_truth}
use Rattle.lucid_tree.specs.Levels.{Elements, nothing_held, below, element_of}
use Rattle.lucid_tree.specs.Env.{Env, empty, scope, frozen_at, Found, absent, plain_def, function_def, current_def, definition, same_name, Aim, to_tree, name_target}
use Rattle.lucid_tree.specs.Meaning.{value_at, part_at, value, val}
use Rattle.lucid_scope.specs.Scope.{Static, outermost, in_block, in_function, Meaning, free, plain_name, parameter, current_name, function, meaning, defined_in}
use Rattle.lucid_scope.specs.Sites.{Site, named, site_at, sites, sites_in, outside_sites, inside_sites, again_if, also, no_names, Earlier}
use Rattle.lucid_scope.specs.Bindings.{binding_of, binding_for}
use Rattle.lucid_scope.specs.Laws.{Matches, outermost_matches, block_matches, NameAim, NamesGoWhereTheyBelong}
use Rattle.lucid_cycles.specs.Graph.{numbered}
use Rattle.lucid_cycles.proofs.Lists.{all-left, all-right, nil-left, nil-right, all-unmap, all-both}
use Rattle.lucid_cycles.proofs.Plans.{run-look, run-test, run-arguments}
use Rattle.lucid_cycles.proofs.Covered.{reach}

module _ (inputs : List (List ℕ)) (bind : Bindings) (ds : List ℕ) (a c : ℕ) (p : List ℕ) (b : Elements) where
  abbrev Bound : Site → Type 0
  Bound s = bind (site_at s) ≡ binding_for inputs s

  record Asked (e : Edge) : Type 0 where
    falls : Falls a p (numbered ds e)
    adds : Adds a p c (numbered ds e)

  record GoodTree (k : Static) (from : Option ℕ) (w : ℤ) (e : PlainTree) : Type 0 where
    inside : outside e ≡ []
    parts : HasParts e
    bound : All Bound (sites k e)
    asked : All Asked (edges bind from w e)

  record GoodTrees (k : Static) (from : Option ℕ) (w v : ℤ) (es : PlainTrees) : Type 0 where
    inside : outside_in es ≡ []
    parts : HaveParts es
    bound : All Bound (sites_in k es)
    asked : All Asked (edges_in bind from w v es)

  abbrev GoodDefs : Static → PlainDefs → Type 0
  GoodDefs k no_defs = Unit {0}
  GoodDefs k (defines at x e es) = GoodTree k (Some at) (pos 0) e × GoodDefs k es
  GoodDefs k (defines_function at x ns ats e es) = ⊥
  GoodDefs k (defines_current at x e es) = ⊥

  abbrev GoodScope : Static → Type 0
  GoodScope outermost = Unit {0}
  GoodScope (in_block es k) = GoodDefs (in_block es k) es × GoodScope k
  GoodScope (in_function d ns ats k) = ⊥

  abbrev GoodFound : Static → Found → Type 0
  GoodFound k absent = Unit {0}
  GoodFound k (plain_def d e) = GoodTree k (Some d) (pos 0) e
  GoodFound k (function_def d ns ats e) = ⊥
  GoodFound k (current_def d e) = ⊥

  found-good : (n : List ℕ) (k : Static) (es : PlainDefs) → GoodDefs k es → GoodFound k (definition n es)
  found-good n k no_defs g = tt
  found-good n k (defines at x e es) g = elim (same_name n x) as (λ v. GoodFound k (cond v (plain_def at e) (definition n es)))
      [ true ↦ g.0 | false ↦ found-good n k es g.1 ]
  found-good n k (defines_function at x ns ats e es) g = absurd g
  found-good n k (defines_current at x e es) g = absurd g

  abbrev GoodMeaning : Meaning → Type 0
  GoodMeaning free = Unit {0}
  GoodMeaning (plain_name d e k) = GoodTree k (Some d) (pos 0) e × GoodScope k
  GoodMeaning (parameter d i at k) = ⊥
  GoodMeaning (current_name d e k o) = ⊥
  GoodMeaning (function d ns ats e k) = ⊥

  defined-good : (f : Found) (home outer : Static) (m : Meaning) → GoodFound home f → GoodScope home → GoodMeaning m → GoodMeaning (defined_in f home outer m)
  defined-good absent h o m g s r = r
  defined-good (plain_def d e) h o m g s r = (g, s)
  defined-good (function_def d ns ats e) h o m g s r = absurd g
  defined-good (current_def d e) h o m g s r = absurd g

  meaning-good : (n : List ℕ) (k : Static) → GoodScope k → GoodMeaning (meaning n k)
  meaning-good n outermost g = tt
  meaning-good n (in_block es k) g = defined-good (definition n es) (in_block es k) k (meaning n k) (found-good n (in_block es k) es g.0) g
      (meaning-good n k g.1)
  meaning-good n (in_function d ns ats k) g = absurd g

  good-head : (k : Static) (x : Option ℕ) (w v : ℤ) (e : PlainTree) (es : PlainTrees) → GoodTrees k x w v (tree e es) → GoodTree k x w e
  good-head k x w v e es g = record {
    inside = nil-left (outside e) (outside_in es) g.inside;
    parts = g.parts.0;
    bound = all-left Bound (sites k e) (sites_in k es) g.bound;
    asked = all-left Asked (edges bind x w e) (edges_in bind x v v es) g.asked;
  }

  good-tail : (k : Static) (x : Option ℕ) (w v : ℤ) (e : PlainTree) (es : PlainTrees) → GoodTrees k x w v (tree e es) → GoodTrees k x v v es
  good-tail k x w v e es g = record {
    inside = nil-right (outside e) (outside_in es) g.inside;
    parts = g.parts.1;
    bound = all-right Bound (sites k e) (sites_in k es) g.bound;
    asked = all-right Asked (edges bind x w e) (edges_in bind x v v es) g.asked;
  }

  -- the parts of a good form
  good-parts : (k : Static) (x : Option ℕ) (w : ℤ) (at : ℕ) (l : Head) (es : PlainTrees) → is_judged l ≡ true → GoodTree k x w (form at l es)
      → GoodTrees k x (first_delay l w) (later_delay l w) es
  good-parts k x w at l es j g = record {
    inside = nil-right _ (outside_in es) g.inside;
    parts = g.parts.1;
    bound = g.bound;
    asked = g.asked;
  }

  good-defs : (k : Static) (earlier : Earlier) (es : PlainDefs) → outside_in_defs es ≡ [] → DefsHaveParts es → All Bound (inside_sites k earlier es)
      → All Asked (edges_in_defs bind es) → GoodDefs k es
  good-defs k earlier no_defs o h s q = tt
  good-defs k earlier (defines at x e es) o h s q =
      let rest = all-right Bound (again_if (earlier x) at) (sites k e ++ inside_sites k (also x earlier) es) s in (
        record {
          inside = nil-left (outside e) (outside_in_defs es) o;
          parts = h.0;
          bound = all-left Bound (sites k e) (inside_sites k (also x earlier) es) rest;
          asked = all-left Asked (edges bind (Some at) (pos 0) e) (edges_in_defs bind es) q;
        },
        good-defs k (also x earlier) es (nil-right (outside e) (outside_in_defs es) o) h.1
            (all-right Bound (sites k e) (inside_sites k (also x earlier) es) rest)
            (all-right Asked (edges bind (Some at) (pos 0) e) (edges_in_defs bind es) q),
      )
  good-defs k earlier (defines_function at x ns ats e es) o h s q = cc
  good-defs k earlier (defines_current at x e es) o h s q = cc

  good-block : (k : Static) (x : Option ℕ) (w : ℤ) (at : ℕ) (e : PlainTree) (es : PlainDefs) → GoodScope k → GoodTree k x w (block at e es)
      → GoodTree (in_block es k) x w e × GoodScope (in_block es k)
  good-block k x w at e es s g =
      let j : Static = in_block es k in
      let own = all-right Bound (outside_sites k es) (sites j e ++ inside_sites j no_names es) g.bound in (
        record {
          inside = nil-left (outside e) (outside_in_defs es) g.inside;
          parts = g.parts.0;
          bound = all-left Bound (sites j e) (inside_sites j no_names es) own;
          asked = all-left Asked (edges bind x w e) (edges_in_defs bind es) g.asked;
        },
        (
          good-defs j no_names es (nil-right (outside e) (outside_in_defs es) g.inside) g.parts.1
              (all-right Bound (sites j e) (inside_sites j no_names es) own)
              (all-right Asked (edges bind x w e) (edges_in_defs bind es) g.asked),
          s,
        ),
      )

  -- what an approximation at m and a time t is to have for the right side of a name, or for the program
  abbrev Starts : Option ℕ → (m t : ℕ) → Type 0
  Starts (Some d) m t = a * t + potential p (number ds d) + 1 ≤ m
  Starts None m t = a * t + c ≤ m

  covered : (from : Option ℕ) (to : ℕ) (w : ℤ) (m t u : ℕ) → Asked (record { from = from; to = to; delay = w }) → Starts from m t → (pos u +ℤ w) ≤ℤ pos t
      → a * u + potential p (number ds to) + 2 ≤ m
  covered (Some d) to w m t u q s h = omega (arith, s, reach a (potential p (number ds d)) (potential p (number ds to)) 1 t u w q.falls h)
  covered None to w m t u q s h = omega (arith, s, reach a c (potential p (number ds to)) 2 t u w q.adds h)

  -- the right sides of plain names are defined at m where it is enough for them
  abbrev Ready : ℕ → Type 0
  Ready m = (d : ℕ) (e : PlainTree) (k : Static) (env : Env) → GoodTree k (Some d) (pos 0) e → GoodScope k → Matches env k → (t s : ℕ) → Starts (Some d) m t
      → IsSome (value_at m (below value (nothing_held b) m) e env t s)

  abbrev ReadyBelow : ℕ → Type 0
  ReadyBelow zero = Unit {0}
  ReadyBelow (suc m) = Ready m

  module _ (goes : NamesGoWhereTheyBelong) (there : (n : List ℕ) (j : ℕ) → IsSome (b n j)) (positive : 2 ≤ c) where
    input-defined : (n : List ℕ) (m u s : ℕ) → 0 < m → IsSome (below value (nothing_held b) m (element_of n u) s)
    input-defined n zero u s h = absurd (omega arith)
    input-defined n (suc m) u s h = there n u

    starts-positive : (from : Option ℕ) (m t : ℕ) → Starts from m t → 0 < m
    starts-positive (Some d) m t h = omega arith
    starts-positive None m t h = omega arith

    name-goes : (m : ℕ) → ReadyBelow m → (d : ℕ) (e : PlainTree) (k : Static) (env : Env) (u s : ℕ) → GoodTree k (Some d) (pos 0) e → GoodScope k
        → Matches env k
        → a * u + potential p (number ds d) + 2 ≤ m → IsSome (below value (nothing_held b) m (to_tree (record { at = d; env = env; time = u }) e env u) s)
    name-goes zero r d e k env u s g f h i = absurd (omega arith)
    name-goes (suc m) r d e k env u s g f h i = r d e k env g f h u s (omega arith)

    asked-edge : (from : Option ℕ) (w : ℤ) (at : ℕ) (n : List ℕ) (d : ℕ) (e : PlainTree) (k : Static) (o : Option Binding) → o ≡ Some (Plain d)
        → All Asked (edge_to from w o) → Asked (record { from = from; to = d; delay = w })
    asked-edge from w at n d e k o is h = All-head Asked (record { from = from; to = d; delay = w }) [] (subst (λ x. All Asked (edge_to from w x)) is h)

    name-defined-by : (m : ℕ) → ReadyBelow m → (at : ℕ) (n : List ℕ) (from : Option ℕ) (w : ℤ) (t u s : ℕ) (mean : Meaning) (aim : Aim) → NameAim n mean u aim
        → GoodMeaning mean
        → bind at ≡ Some (binding_of inputs n mean) → All Asked (edge_to from w (bind at)) → Starts from m t → (pos u +ℤ w) ≤ℤ pos t
        → IsSome (below value (nothing_held b) m aim s)
    name-defined-by m r at n from w t u s free aim q g e h f i =
        subst (λ x. IsSome (below value (nothing_held b) m x s)) (sym q) (input-defined n m u s (starts-positive from m t f))
    name-defined-by m r at n from w t u s (plain_name d x k) aim q g e h f i =
        subst (λ y. IsSome (below value (nothing_held b) m y s)) (sym q.is)
        (name-goes m r d x k q.env u s g.0 g.1 q.matches (covered from d w m t u (asked-edge from w at n d x k (bind at) e h) f i))
    name-defined-by m r at n from w t u s (parameter d j k l) aim q g e h f i = absurd g
    name-defined-by m r at n from w t u s (current_name d x k o) aim q g e h f i = absurd g
    name-defined-by m r at n from w t u s (function d ns ats x k) aim q g e h f i = absurd g

    name-defined : (m : ℕ) → ReadyBelow m → (at : ℕ) (n : List ℕ) (k : Static) (env : Env) (from : Option ℕ) (w : ℤ) (t u s : ℕ) → GoodTree k from w (name at n)
        → GoodScope k → Matches env k
        → Starts from m t → (pos u +ℤ w) ≤ℤ pos t → IsSome (below value (nothing_held b) m (name_target n env u) s)
    name-defined m r at n k env from w t u s g f h i l =
        name-defined-by m r at n from w t u s (meaning n k) (name_target n env u) (goes n env k h u) (meaning-good n k f)
        (All-head Bound (named at n k) [] g.bound) g.asked i l

    module _ (m : ℕ) (r : ReadyBelow m) where
      abbrev TreeDefined : PlainTree → Type 0
      TreeDefined e = (k : Static) (env : Env) (from : Option ℕ) (w : ℤ) (t u s : ℕ) → GoodTree k from w e → GoodScope k → Matches env k → Starts from m t
          → (pos u +ℤ w) ≤ℤ pos t
          → IsSome (value_at m (below value (nothing_held b) m) e env u s)

      -- where the first part is met at w, and the later ones at v
      abbrev PartsDefined : PlainTrees → Type 0
      PartsDefined es = (k : Static) (env : Env) (from : Option ℕ) (w v : ℤ) (t u s : ℕ) → GoodTrees k from w v es → GoodScope k → Matches env k
          → Starts from m t → (i : ℕ) → i < count es
          → (i ≡ 0 → (pos u +ℤ w) ≤ℤ pos t) → (0 < i → (pos u +ℤ v) ≤ℤ pos t) → IsSome (part_at m (below value (nothing_held b) m) es env i u s)

      -- a form by its parts
      abbrev parts_of : PlainTrees → Env → Reader (Option PlainValue)
      parts_of es env i u s = part_at m (below value (nothing_held b) m) es env i u s

      mutual
        tree-defined : (e : PlainTree) → TreeDefined e
        tree-defined (name at n) k env from w t u s g f h i l = name-defined m r at n k env from w t u s g f h i l
        tree-defined (call at n es) k env from w t u s g f h i l = let no = g.inside in cc
        tree-defined (block at e es) k env from w t u s g f h i l =
            let q = good-block k from w at e es f g in
            tree-defined e (in_block es k) (scope es (frozen_at es u) env) from w t u s q.0 q.1 (block_matches h) i l
        tree-defined (form at (const v) es) k env from w t u s g f h i l = refl
        tree-defined (form at (apply op n) es) k env from w t u s g f h i l =
            run-arguments (parts_of es env) (algebra op) n u s
            (λ j q. parts-defined es k env from w w t u s (good-parts k from w at (apply op n) es refl g) f h i j (omega (arith, q, g.parts.0)) (λ z. l)
            (λ z. l))
        tree-defined (form at choose es) k env from w t u s g f h i l =
            let part = λ (j : ℕ) (q : j < 3). parts-defined es k env from w w t u s (good-parts k from w at choose es refl g) f h i j
            (omega (arith, q, g.parts.0)) (λ z. l) (λ z. l) in
            run-look (parts_of es env) 0 u s 0 (λ v. by_test v (gives_part 1 u s) (gives_part 2 u s)) (part 0 (omega arith))
            (λ v. run-test (parts_of es env) v (gives_part 1 u s) (gives_part 2 u s)
            (run-look (parts_of es env) 1 u s 0 gives (part 1 (omega arith)) (λ x. refl))
            (run-look (parts_of es env) 2 u s 0 gives (part 2 (omega arith)) (λ x. refl)))
        tree-defined (form at both es) k env from w t u s g f h i l =
            let part = λ (j : ℕ) (q : j < 2). parts-defined es k env from w w t u s (good-parts k from w at both es refl g) f h i j
            (omega (arith, q, g.parts.0)) (λ z. l) (λ z. l) in
            run-look (parts_of es env) 0 u s 0 (λ v. by_test v (look 1 u s 0 (λ x. gives (only_truth x))) (gives (truth false))) (part 0 (omega arith))
            (λ v. run-test (parts_of es env) v (look 1 u s 0 (λ x. gives (only_truth x))) (gives (truth false))
            (run-look (parts_of es env) 1 u s 0 (λ x. gives (only_truth x)) (part 1 (omega arith)) (λ x. refl)) refl)
        tree-defined (form at either es) k env from w t u s g f h i l =
            let part = λ (j : ℕ) (q : j < 2). parts-defined es k env from w w t u s (good-parts k from w at either es refl g) f h i j
            (omega (arith, q, g.parts.0)) (λ z. l) (λ z. l) in
            run-look (parts_of es env) 0 u s 0 (λ v. by_test v (gives (truth true)) (look 1 u s 0 (λ x. gives (only_truth x)))) (part 0 (omega arith))
            (λ v. run-test (parts_of es env) v (gives (truth true)) (look 1 u s 0 (λ x. gives (only_truth x))) refl
            (run-look (parts_of es env) 1 u s 0 (λ x. gives (only_truth x)) (part 1 (omega arith)) (λ x. refl)))
        tree-defined (form at first es) k env from w t u s g f h i l =
            run-look (parts_of es env) 0 0 s 0 gives
            (parts-defined es k env from (pos 0) (pos 0) t 0 s (good-parts k from w at first es refl g) f h i 0 (omega (arith, g.parts.0))
            (λ z. omega (arith, ints)) (λ z. absurd (omega (arith, z))))
            (λ x. refl)
        tree-defined (form at next es) k env from w t u s g f h i l =
            elim (nat_lt u last) as (λ q. IsSome (run (cond q (gives_part 0 (suc u) s) (gives fault)) (parts_of es env))) [
              | true ↦ run-look (parts_of es env) 0 (suc u) s 0 gives
                  (parts-defined es k env from (w -ℤ pos 1) (w -ℤ pos 1) t (suc u) s (good-parts k from w at next es refl g) f h i 0
                  (omega (arith, g.parts.0)) (λ z. omega (arith, ints, l)) (λ z. absurd (omega (arith, z))))
                  (λ x. refl)
              | false ↦ refl
            ]
        tree-defined (form at fby es) k env from w t zero s g f h i l =
            run-look (parts_of es env) 0 0 s 0 gives
            (parts-defined es k env from w (w +ℤ pos 1) t 0 s (good-parts k from w at fby es refl g) f h i 0 (omega (arith, g.parts.0)) (λ z. l)
            (λ z. absurd (omega (arith, z)))) (λ y. refl)
        tree-defined (form at fby es) k env from w t (suc u) s g f h i l =
            run-look (parts_of es env) 1 u s 0 gives
            (parts-defined es k env from w (w +ℤ pos 1) t u s (good-parts k from w at fby es refl g) f h i 1 (omega (arith, g.parts.0))
            (λ z. absurd (omega (arith, z))) (λ z. omega (arith, ints, l))) (λ y. refl)
        tree-defined (form at _ es) k env from w t u s g f h i l = let no = g.inside in cc

        parts-defined : (es : PlainTrees) → PartsDefined es
        parts-defined no_trees k env from w v t u s g f h i j q l n = absurd (omega (arith, q))
        parts-defined (tree e es) k env from w v t u s g f h i zero q l n = tree-defined e k env from w t u s (good-head k from w v e es g) f h i (l refl)
        parts-defined (tree e es) k env from w v t u s g f h i (suc j) q l n =
            let after = n (omega arith) in
            parts-defined es k env from v v t u s (good-tail k from w v e es g) f h i j (omega (arith, q)) (λ z. after) (λ z. after)

    ready-below : (m : ℕ) → ReadyBelow m
    ready-below zero = tt
    ready-below (suc m) = λ d e k env g f h t s i. tree-defined m (ready-below m) e k env (Some d) (pos 0) t t s g f h i (omega (arith, ints))

    program-defined : (e : PlainTree) → GoodTree outermost None (pos 0) e → (t s : ℕ) → IsSome (val b (a * t + c) e empty t s)
    program-defined e g t s = tree-defined (a * t + c) (ready-below (a * t + c)) e outermost empty None (pos 0) t t s g tt outermost_matches (omega arith)
        (omega (arith, ints))

pub enough-defined : NamesGoWhereTheyBelong → EnoughIsEnough
enough-defined goes e inputs bind factor add p parts resolved inside q b there =
    let ds : List ℕ = plain_names e in
    let falls : All (λ (x : Edge). Falls factor p (numbered ds x)) (edges bind None (pos 0) e) =
    all-unmap (Falls factor p) (numbered ds) (edges bind None (pos 0) e) (subst (λ f. All (Falls f p) (graph e bind)) (sym q.factor_is) q.potentials.fall) in
    let adds : All (λ (x : Edge). Adds factor p add (numbered ds x)) (edges bind None (pos 0) e) =
    all-unmap (Adds factor p add) (numbered ds) (edges bind None (pos 0) e) (subst (λ f. All (Adds f p add) (graph e bind)) (sym q.factor_is) q.added.adds) in
    program-defined inputs bind ds factor add p b goes there q.added.two e
    (record {
      inside = inside;
      parts = parts;
      bound = resolved.bindings_are.bound;
      asked = all-both (λ (x : Edge). Falls factor p (numbered ds x)) (λ (x : Edge). Adds factor p add (numbered ds x)) (Asked inputs bind ds factor add p b)
          (λ x f g. record { falls = f; adds = g }) (edges bind None (pos 0) e) falls adds;
    })
