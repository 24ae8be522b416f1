-- What a tree adds, from what its parts add.
use Rattle.lucid_compile.proofs.Common.{◌≡◌, ℕ, suc, ◌+◌, ◌<◌, Bool, true, false, ◌&&◌, IsTrue, nat_eq, nat_lt, if◌then◌else◌, length, List, [], ◌∷◌, ◌++◌, take, get_or, slice_get, Some, refl, sym, ap, ◌∙◌, subst, arith, take_more, PlainValue, fits_arity, is_shaped, Head, const, PlainTree, form, name, call, block, PlainTrees, no_trees, tree, PlainDefs, no_defs, defines, defines_function, defines_current, count, FitsHead, def_of, one_def, Def, DefKind, scoped_inputs, scoped_binding, PlainNode, PlainNodes, row, freeze, invoke, no_nodes, node, plain_entry, current_entry, parameter_entry, at-kept, freezes, frame, level, in_body, EachBelow, all_at, Const, Freeze, ScopeIs, EachStandsIn, Plain, Parameter, Current, Node, Body, Here, ScopeRow, name_mark, function_mark, call_number, plain_key, Lists, with_name, with_place, with_body, OneScope, OneConstant, OneNode, Note, Numbered, name_node, callee_place, bound_node, bound_nodes, FunctionStand, Log, with_nodes, with_scopes, block_scopes, with_call, with_parameters, added, added_all, added_defs, node_of, HasFirst, IsForm, StandsAt, IsNameRow, Grown, GrownTo, AddsTree, AddsTrees, AddsDefs, link, AddsNode, AddsParameters, first_true, second_true, Result, Ok, Err, IfOk, add-zero, length-take-le, right_of, current_right, note, parameter_number, piece, plain_right, constant_notes, with_constants, node_place, AreNumbers, HasParts}
use Rattle.lucid_lists.proofs.Lists.{slice_get-push_same as some-last}
use Rattle.lucid_tree.specs.declared.tree.DefKind.TheVariants.{Plain as PlainKind, Function as FunctionKind, Current as CurrentKind}
use Rattle.lucid_compile.specs.Static.{Static, in_block}
use Rattle.lucid_compile.proofs.Opening.{here-tree, here-trees, here-defs, here-parameters, here-scopes}
use Rattle.lucid_equations.specs.declared.rows.ScopeKind.TheVariants.{Called as CalledScope, Frozen as FrozenScope}
use Rattle.lucid_compile.specs.Keys.{function_key}
use Rattle.lucid_compile.proofs.Pairs.{pairs-count}
use Rattle.lucid_compile.specs.Bound.{call_node}
use Rattle.lucid_compile.proofs.Formed.{is-form}
use Rattle.lucid_compile.specs.Holds.{nodes_in, AllGrownTo}
use Rattle.lucid_compile.specs.Steps.{AddsCall, AddsBlock, OpensRight, ClosesRight}
use Rattle.lucid_compile.proofs.Growing.{begins-then, scope-kept, stands-kept, no-nodes, no-constants, no-scopes, open-grown, opened-is, parent-below, grown-none, grown-then, push-grown, keep-grown, keep-noted, keep-constant, keep-known, define-grown, close-grown, place-grown, within-kept}
use Rattle.lucid_compile.proofs.Walking.{nodes-trees, nodes-defs}
use Rattle.lucid_compile.proofs.Noting.{number-kept}
use Rattle.lucid_compile.proofs.Shapes.{shaped-one, freezes-first, freezes-rest}
use Rattle.lucid_compile.proofs.Named.{parts-own, named-stands, named-filled, named-means, named-known, named-parts}

pub if_ok : {T E : Type 0} (r : Result T E) (P Q : T → Type 0) → IfOk r P → ((x : T) → P x → Q x) → IfOk r Q
if_ok (Ok x) P Q h f = f x h
if_ok (Err e) P Q h f = tt

pub not-both : (b : Bool) → b ≡ true → b ≡ false → ⊥
not-both b x y =
    let q : true ≡ false = sym x ∙ y in
    cc

one-added : (k q : Static) (at : ℕ) (n : List ℕ) (ds : PlainDefs) (x : DefKind) (g : Log)
    → added_defs k q (def_of at n x ds) g ≡ added_defs k q ds (added_defs k q (def_of at n x no_defs) g)
one-added k q at n ds (PlainKind e) g = refl
one-added k q at n ds (FunctionKind ps ats e) g = refl
one-added k q at n ds (CurrentKind e) g = refl

-- what a first definition adds, and then what the others do
pub first-added : (k q : Static) (d : Def) (ds : PlainDefs) (g : Log)
    → added_defs k q (one_def d ds) g ≡ added_defs k q ds (added_defs k q (one_def d no_defs) g)
first-added k q d ds g = one-added k q d.at d.name ds d.kind g

pub parameters-after : (k : Static) (i : ℕ) (ats : List ℕ) (at : ℕ) (g : Log)
    → with_parameters k i (ats ++ at ∷ []) g ≡ with_parameters k (i + length ats) (at ∷ []) (with_parameters k i ats g)
parameters-after k i [] at g = ap (λ j. with_parameters k j (at ∷ []) g) (sym (add-zero i))
parameters-after k i (x ∷ ats) at g =
    let e : suc i + length ats ≡ i + suc (length ats) = omega arith in
    parameters-after k (suc i) ats at _ ∙ ap (λ j. with_parameters k j (at ∷ []) (with_parameters k i (x ∷ ats) g)) e

abbrev count-nodes : PlainNodes → ℕ
count-nodes no_nodes = 0
count-nodes (node x xs) = count-nodes xs + 1

count-at : (ts : List PlainNode) (ids : List ℕ) → count-nodes (all_at ts ids) ≡ length ids
count-at ts [] = refl
count-at ts (i ∷ ids) = omega (arith, count-at ts ids)

count-bound : (w : Numbered) (es : PlainTrees) → count-nodes (bound_nodes w es) ≡ count es
count-bound w no_trees = refl
count-bound w (tree e es) = ap (λ n. n + 1) (count-bound w es)

pub count-same : (w : Numbered) (ts : List PlainNode) (ids : List ℕ) (es : PlainTrees) → all_at ts ids ≡ bound_nodes w es → length ids ≡ count es
count-same w ts ids es e = sym (count-at ts ids) ∙ ap count-nodes e ∙ count-bound w es

-- the row of a scope that was opened
opened-row : (o n : Lists) (r : ScopeRow) (id : ℕ) → OneScope o n r id → slice_get n.scopes id ≡ Some r
opened-row o n r id s = ap (λ (l : Lists). slice_get l.scopes id) s.lists ∙ ap (slice_get (o.scopes ++ r ∷ [])) s.number ∙ some-last o.scopes r

module _ (w : Numbered) where
  grown-on : (o m n : Lists) (g h : Log) (x : PlainNode) (at s id : ℕ) → Grown w o m g → GrownTo w m n h x at s id → GrownTo w o n h x at s id
  grown-on o m n g h x at s id a b = record { grown = grown-then w o m n g h a b.grown; within = b.within; is = b.is; noted = b.noted; stands = b.stands }

  pub no_trees-added : (o : Lists) (d : Here) → AddsTrees w o o d no_trees []
  no_trees-added o d = λ k g l t h. record { grown = grown-none w o g h; within = tt; are = refl; noted = tt; stand = tt }

  -- a first part, and then others
  pub tree-then : (o m n : Lists) (d : Here) (e : PlainTree) (es : PlainTrees) (id : ℕ) (ids : List ℕ) → AddsTree w o m d e id → AddsTrees w m n d es ids
      → AddsTrees w o n d (tree e es) (id ∷ ids)
  tree-then o m n d e es id ids a b = λ k g l t h.
      let p : GrownTo w o m (added k e g) (bound_node w e) (node_place e) d.scope id = a k g l (first_true (is_shaped e) _ t) h in
      let q : AllGrownTo w m n (added_all k es (added k e g)) es d.scope ids =
      b k (added k e g) (here-tree k d k e g l) (second_true (is_shaped e) _ t) p.grown.holds in
      record {
        grown = grown-then w o m n _ _ p.grown q.grown;
        within = (within-kept (nodes_in w m) (nodes_in w n) q.grown.begins id p.within, q.within);
        are = λ j. node ((at-kept (nodes_in w m) (nodes_in w n) id q.grown.begins p.within ∙ p.is) j) (q.are j);
        noted = (number-kept (added k e g).nodes (added_all k es (added k e g)).nodes id e (nodes-trees k es (added k e g)) p.noted, q.noted);
        stand = (stands-kept m.nodes n.nodes q.grown.rows d.scope id p.stands, q.stand);
      }

  -- a form of parts that were added, with its node
  row-added : (o m n : Lists) (d : Here) (at : ℕ) (f : Head) (es : PlainTrees) (ids : List ℕ) (x : Node) (id : ℕ) → AddsTrees w o m d es ids
      → OneNode m n (record { scope = d.scope; node = x }) id → (length ids ≡ count es → IsTrue (fits_arity f es) → IsForm f ids x)
      → ((k : Static) → constant_notes k at f es ≡ [])
      → ((cs ns : List Note) → AreNumbers ns ids es → HasParts cs ns x (piece (form at f es))) → AddsTree w o n d (form at f es) id
  row-added o m n d at f es ids x id a s made none own = λ k g l t h.
      let p : AllGrownTo w o m (added_all k es g) es d.scope ids = a k g l (second_true (fits_arity f es) _ t) h in
      let is : IsForm f ids x = made (count-same w (nodes_in w m) ids es p.are) (first_true (fits_arity f es) _ t) in
      let v : Note = note at k (piece (form at f es)) in
      grown-on o m n _ _ _ _ _ id p.grown
      (subst (λ y. GrownTo w m n (with_nodes (v ∷ []) y) (row f (bound_nodes w es)) at d.scope id)
      (sym (ap (λ cs. with_constants cs (added_all k es g)) (none k) ∙ no-constants (added_all k es g)))
      (push-grown w m n (added_all k es g) (record { scope = d.scope; node = x }) v id p.grown.holds s
      (is.means m.constants (scoped_inputs w.scoped) (nodes_in w m) ∙ ap (row f) p.are) (is.known (length m.constants))
      (subst (EachBelow (length (nodes_in w m))) (sym is.parts_are) p.within) is.alone (here-trees k d k es g l).1
      (parts-own m.scopes m.nodes d.scope x is.own (subst (EachStandsIn m.nodes d.scope) (sym is.parts_are) p.stand)) is.filled (own (added_all k es g).constants (added_all k es g).nodes p.noted)))

  const-added : (o m l n : Lists) (d : Here) (at : ℕ) (v : PlainValue) (es : PlainTrees) (ids : List ℕ) (c id : ℕ) → count es ≡ 0 → AddsTrees w o m d es ids
      → OneConstant m l v c → OneNode l n (record { scope = d.scope; node = Const c }) id → AddsTree w o n d (form at (const v) es) id
  const-added o m l n d at v no_trees ids c id z a b s = λ k g q t h.
      let p : AllGrownTo w o m g no_trees d.scope ids = a k g q refl h in
      let y : Note = note at k (piece (form at (const v) no_trees)) in
      let r : Grown w m l (with_constants (y ∷ []) g) = keep-grown w m l g y v c p.grown.holds b refl in
      grown-on o l n _ _ _ _ _ id (grown-then w o m l _ _ p.grown r)
      (push-grown w l n (with_constants (y ∷ []) g) (record { scope = d.scope; node = Const c }) y id r.holds s
      (ap (λ x. row (const x) no_nodes) (keep-constant w m l v c b)) (keep-known w m l v c b) tt tt q.1 tt tt
      (c, refl, keep-noted w m l g y v c p.grown.holds b))
  const-added o m l n d at v (tree e es) ids c id z a b s = absurd (omega (arith, z))

  pub form-added : (o m l n : Lists) (d : Here) (at : ℕ) (f : Head) (es : PlainTrees) (ids : List ℕ) (a id : ℕ) → FitsHead f (count es)
      → AddsTrees w o m d es ids → HasFirst m l f ids a
      → OneNode l n (record { scope = d.scope; node = node_of f a (get_or ids 1 0) (get_or ids 2 0) }) id → AddsTree w o n d (form at f es) id
  form-added o m l n d at (const v) es ids a id h x b s = const-added o m l n d at v es ids a id h x b s
  form-added o m l n d at f es ids a id h x b s =
      let same : OneNode m n (record { scope = d.scope; node = node_of f (get_or ids 0 0) (get_or ids 1 0) (get_or ids 2 0) }) id =
      subst (λ y. OneNode m n (record { scope = d.scope; node = node_of f y (get_or ids 1 0) (get_or ids 2 0) }) id) b.1
      (subst (λ z. OneNode z n (record { scope = d.scope; node = node_of f a (get_or ids 1 0) (get_or ids 2 0) }) id) b.0 s) in
      row-added o m n d at f es ids _ id x same (λ e t. is-form f es ids tt h e t) (λ k. refl) (λ cs ns z. (ids, refl, z))

  pub name-added : (m n : Lists) (d : Here) (at id : ℕ) → OneNode m n (record { scope = d.scope; node = name_node w at }) id → (x ids : List ℕ)
      → AddsNode w m n d (name at x) ids id
  name-added m n d at id s x ids = λ o a k g l t h.
      let b = scoped_binding w.scoped at in
      let p : AllGrownTo w o m g no_trees d.scope ids = a k g l t h in
      grown-on o m n _ _ _ _ _ id p.grown
      (push-grown w m n g (record { scope = d.scope; node = name_node w at }) (note at k (piece (name at x))) id p.grown.holds s
      (named-means m.constants (scoped_inputs w.scoped) (nodes_in w m) w.numbering b)
      (named-known (length m.constants) w.numbering b) (named-parts (length (nodes_in w m)) w.numbering b) refl l.1
      (named-stands m.scopes m.nodes d.scope w.numbering b) (named-filled w.numbering b) tt)

  pub call-added : (m l n : Lists) (d : Here) (at first : ℕ) (ids : List ℕ) (id : ℕ)
      → l ≡ with_place (plain_key at d.level) (plain_key first d.level) (record { scope = d.scope; name = (name_mark w.numbering at).number; actuals = ids }) m
      → OneNode l n (record { scope = d.scope; node = call_node w at first }) id → AddsCall w m n d at first ids id
  call-added m l n d at first ids id b s = λ o x es f a k g e u h.
      let r : AllGrownTo w o m (added_all k es g) es d.scope ids = a k g e u h in
      let on : StandsAt (added_all k es g) k d = here-trees k d k es g e in
      let c : Note = note at k (piece (call at x es)) in
      let z : Log = with_call c (added_all k es g) in
      let y : Grown w m l z = place-grown w m l (added_all k es g) c (plain_key at d.level) (plain_key first d.level)
      (record { scope = d.scope; name = (name_mark w.numbering at).number; actuals = ids }) r.grown.holds b (ap (plain_key at) (sym e.0))
      (λ j. plain_key (f j) (sym e.0 j)) r.within r.are on.1 refl r.stand r.noted in
      grown-on o l n _ _ _ _ _ id (grown-then w o m l _ _ r.grown y)
      (push-grown w l n z (record { scope = d.scope; node = call_node w at first }) c id y.holds s
      (λ j. invoke (name_mark w.numbering at).number (call_number w.numbering (f j))
      (function_mark w.numbering (callee_place (scoped_binding w.scoped at))).level) tt tt (λ j. call_node w at (f j)) on.1 tt tt tt)

  level-frozen : (b : Bool) (n m : ℕ) → b ≡ true → n ≡ m → (if b then suc n else n) ≡ m + 1
  level-frozen b n m e h = rw e (omega (arith, h))

  level-open : (b : Bool) (n m : ℕ) → b ≡ false → n ≡ m → (if b then suc n else n) ≡ m
  level-open b n m e h = rw e h

  frame-frozen : (b : Bool) (k q : Static) → b ≡ true → (if b then k else q) ≡ k
  frame-frozen b k q e = rw e refl

  frame-open : (b : Bool) (k q : Static) → b ≡ false → (if b then k else q) ≡ q
  frame-open b k q e = rw e refl

  -- in a scope that was opened
  pub frozen-opened : (o p m l n : Lists) (d inner : Here) (e : PlainTree) (ds : PlainDefs) (i id : ℕ) → freezes ds ≡ true
      → OneScope o p (record { parent = d.scope; kind = FrozenScope }) inner.scope → inner.level ≡ d.level + 1 → AddsTree w p m inner e i
      → AddsDefs w m l inner d ds
      → OneNode l n (record { scope = d.scope; node = Freeze i }) id → AddsBlock w o n d e ds id
  frozen-opened o p m l n d inner e ds i id f opens depth a b s = λ at k g q u h.
      let y : Static = in_block ds k in
      let here : Note = note at k (piece (block at e ds)) in
      let x : ScopeRow = record { parent = d.scope; kind = FrozenScope } in
      let own : frame y ≡ y = frame-frozen (freezes ds) y (frame k) f in
      let first : Log = with_scopes (y ∷ []) g in
      let v : Grown w o p first = open-grown w o p g y x inner.scope h opens (refl, parent-below w o p g x inner.scope d.scope k h opens q.1, q.1) in
      let inside : StandsAt first y inner = (level-frozen (freezes ds) (level k) d.level f q.0 ∙ sym depth, opened-is w o p g y x inner.scope h opens own) in
      let r : GrownTo w p m (added y e first) (bound_node w e) (node_place e) inner.scope i = a y first inside (first_true (is_shaped e) _ u) v.holds in
      let z : Log = added_defs y k ds (added y e first) in
      let on : StandsAt (added y e first) k d = here-tree k d y e first (here-scopes k d (y ∷ []) g q) in
      let row : ScopeIs p.scopes inner.scope d.scope FrozenScope = opened-row o p x inner.scope opens in
      let t : Grown w m l z = b y k (added y e first) (here-tree y inner y e first inside) on
      (λ _. scope-kept p.scopes m.scopes r.grown.outer inner.scope d.scope FrozenScope row) (second_true (is_shaped e) _ u) r.grown.holds in
      let last : StandsAt z k d = here-defs k d y k ds (added y e first) on in
      subst (λ c. GrownTo w o n (with_nodes (if c then here ∷ [] else []) (added_defs y k ds (added y e (with_scopes (block_scopes c y) g))))
      (if c then freeze (bound_node w e) else bound_node w e) (if c then at else node_place e) d.scope id) (sym f)
      (grown-on o l n _ _ _ _ _ id (grown-then w o p l _ _ v (grown-then w p m l _ _ r.grown t))
      (subst (λ x. GrownTo w l n (with_nodes (here ∷ []) z) x at d.scope id) (ap (λ b. if b then freeze (bound_node w e) else bound_node w e) f)
      (push-grown w l n z (record { scope = d.scope; node = Freeze i }) here id t.holds s
      (ap freeze (at-kept (nodes_in w m) (nodes_in w l) i t.begins r.within ∙ r.is) ∙ ap (λ b. if b then freeze (bound_node w e) else bound_node w e) (sym f)) tt
      (within-kept (nodes_in w m) (nodes_in w l) t.begins i r.within, tt) tt last.1 (
        inner.scope,
        scope-kept p.scopes l.scopes (begins-then p.scopes m.scopes l.scopes r.grown.outer t.outer) inner.scope d.scope FrozenScope row,
        stands-kept m.nodes l.nodes t.rows inner.scope i r.stands,
      ) tt (i, refl, number-kept (added y e first).nodes z.nodes i e (nodes-defs y k ds (added y e first)) r.noted))))

  pub open-added : (o m l : Lists) (d : Here) (e : PlainTree) (ds : PlainDefs) (i : ℕ) → freezes ds ≡ false → AddsTree w o m d e i → AddsDefs w m l d d ds
      → AddsBlock w o l d e ds i
  open-added o m l d e ds i f a b = λ at k g q u h.
      let y : Static = in_block ds k in
      let here : Note = note at k (piece (block at e ds)) in
      let same : frame y ≡ frame k = frame-open (freezes ds) y (frame k) f in
      let inside : StandsAt g y d = (level-open (freezes ds) (level k) d.level f q.0, q.1 ∙ ap Some (sym same)) in
      let r : GrownTo w o m (added y e g) (bound_node w e) (node_place e) d.scope i = a y g inside (first_true (is_shaped e) _ u) h in
      let z : Log = added_defs y k ds (added y e g) in
      let t : Grown w m l z = b y k (added y e g) (here-tree y d y e g inside) (here-tree k d y e g q) (λ x. absurd (not-both (freezes ds) x f))
      (second_true (is_shaped e) _ u) r.grown.holds in
      subst (λ c. GrownTo w o l (with_nodes (if c then here ∷ [] else []) (added_defs y k ds (added y e (with_scopes (block_scopes c y) g))))
      (if c then freeze (bound_node w e) else bound_node w e) (if c then at else node_place e) d.scope i) (sym f)
      (subst (λ x. GrownTo w o l (with_nodes [] (added_defs y k ds (added y e x))) (bound_node w e) (node_place e) d.scope i) (sym (no-scopes g))
      (subst (λ x. GrownTo w o l x (bound_node w e) (node_place e) d.scope i) (sym (no-nodes z)) (record {
        grown = grown-then w o m l _ _ r.grown t;
        within = within-kept (nodes_in w m) (nodes_in w l) t.begins i r.within;
        is = at-kept (nodes_in w m) (nodes_in w l) i t.begins r.within ∙ r.is;
        noted = number-kept (added y e g).nodes z.nodes i e (nodes-defs y k ds (added y e g)) r.noted;
        stands = stands-kept m.nodes l.nodes t.rows d.scope i r.stands;
      })))

  -- definitions

  pub no_defs-added : (o : Lists) (i d : Here) → AddsDefs w o o i d no_defs
  no_defs-added o i d = λ k q g a b z t h. grown-none w o g h

  -- a first definition, and then others
  pub defs-then : (o m n : Lists) (i d : Here) (x : Def) (ds : PlainDefs) → AddsDefs w o m i d (one_def x no_defs) → AddsDefs w m n i d ds
      → AddsDefs w o n i d (one_def x ds)
  defs-then o m n i d x ds a b = λ k q g e f z t h.
      let s = shaped-one x ds x.kind t in
      let one : Log = added_defs k q (one_def x no_defs) g in
      let p : Grown w o m one = a k q g e f (λ y. z (freezes-first x ds y)) s.0 h in
      subst (Grown w o n) (sym (first-added k q x ds g))
      (grown-then w o m n _ _ p (b k q one (here-defs k i k q (one_def x no_defs) g e) (here-defs q d k q (one_def x no_defs) g f)
      (λ y. scope-kept o.scopes m.scopes p.outer i.scope d.scope FrozenScope (z (freezes-rest x ds y))) s.1 p.holds))

  pub plain-added : (o m n : Lists) (i d : Here) (at : ℕ) (x : List ℕ) (e : PlainTree) (body : ℕ) → AddsTree w o m i e body
      → n ≡ with_name (plain_key at i.level) (record { scope = i.scope; kind = Plain body }) m → AddsDefs w o n i d (defines at x e no_defs)
  plain-added o m n i d at x e body a s = λ k q g u v fz t h.
      let p : GrownTo w o m (added k e g) (bound_node w e) (node_place e) i.scope body = a k g u (first_true (is_shaped e) _ t) h in
      grown-then w o m n _ _ p.grown (define-grown w m n (added k e g) (note at k (plain_right e))
      (plain_key at i.level) (record { scope = i.scope; kind = Plain body }) p.grown.holds s (ap (plain_key at) (sym u.0)) (p.within, ap plain_entry p.is)
      (here-tree k i k e g u).1 p.stands (body, refl, p.noted))

  pub current-added : (o m n : Lists) (i d : Here) (at : ℕ) (x : List ℕ) (e : PlainTree) (body : ℕ) → AddsTree w o m d e body
      → n ≡ with_name (plain_key at i.level) (record { scope = i.scope; kind = Current body }) m → AddsDefs w o n i d (defines_current at x e no_defs)
  current-added o m n i d at x e body a s = λ k q g u v fz t h.
      let p : GrownTo w o m (added q e g) (bound_node w e) (node_place e) d.scope body = a q g v (first_true (is_shaped e) _ t) h in
      grown-then w o m n _ _ p.grown (define-grown w m n (added q e g) (note at k (current_right e))
      (plain_key at i.level) (record { scope = i.scope; kind = Current body }) p.grown.holds s (ap (plain_key at) (sym u.0))
      (p.within, ap current_entry p.is) (here-tree k i q e g u).1
      (d.scope, scope-kept o.scopes m.scopes p.grown.outer i.scope d.scope FrozenScope (fz refl), p.stands) (body, refl, p.noted))

  pub no_parameters-added : (o : Lists) (d : Here) → AddsParameters w o o d []
  no_parameters-added o d = λ k g l c h. grown-none w o g h

  pub parameters-more : (o m n : Lists) (d : Here) (ats : List ℕ) (i index at : ℕ) → i < length ats → index ≡ i → at ≡ get_or ats i 0
      → AddsParameters w o m d (take i ats) → n ≡ with_name (plain_key at d.level) (record { scope = d.scope; kind = Parameter index }) m
      → AddsParameters w o n d (take (i + 1) ats)
  parameters-more o m n d ats i index at h e is a s =
      let count : length (take i ats) ≡ i = length-take-le i ats (omega arith) in
      subst (AddsParameters w o n d) (sym (take_more ats i 0 h ∙ ap (λ y. take i ats ++ y ∷ []) (sym is))) (λ k g u c held.
      let before : Log = with_parameters k 0 (take i ats) g in
      let p : Grown w o m before = a k g u c held in
      let number : index ≡ 0 + length (take i ats) = omega (arith, e, count) in
      let one : Note = note at k (parameter_number (0 + length (take i ats))) in
      subst (Grown w o n) (sym (parameters-after k 0 (take i ats) at g))
      (grown-then w o m n _ _ p (define-grown w m n before one (plain_key at d.level) (record { scope = d.scope; kind = Parameter index }) p.holds s
      (ap (plain_key at) (sym u.0)) (ap parameter_entry number) (here-parameters k d k 0 (take i ats) g u).1
      (c.0, scope-kept o.scopes m.scopes p.outer d.scope c.0 CalledScope c.1) (ap Parameter number))))

  pub function-opened : (o p m l n : Lists) (i inner d : Here) (at number : ℕ) (x : List ℕ) (ns : List (List ℕ)) (ats : List ℕ) (e : PlainTree) (body : ℕ)
      → OneScope o p (record { parent = i.scope; kind = CalledScope }) inner.scope → inner.level ≡ i.level + 1 → AddsParameters w p m inner ats
      → AddsTree w m l inner e body
      → number ≡ length o.names → n ≡ with_body (function_key at number i.level) (record { scope = inner.scope; body = body }) l
      → AddsDefs w o n i d (defines_function at x ns ats e no_defs)
  function-opened o p m l n i inner d at number x ns ats e body opens deeper a c count s = λ k q g u v fz t h.
      let f : Static = in_body ns ats k in
      let y : ScopeRow = record { parent = i.scope; kind = CalledScope } in
      let first : Log = with_scopes (f ∷ []) g in
      let z : Grown w o p first = open-grown w o p g f y inner.scope h opens (refl, parent-below w o p g y inner.scope i.scope k h opens u.1, u.1) in
      let deep : level f ≡ inner.level = omega (arith, u.0, deeper) in
      let inside : StandsAt first f inner = (deep, opened-is w o p g f y inner.scope h opens refl) in
      let called : ScopeIs p.scopes inner.scope i.scope CalledScope = opened-row o p y inner.scope opens in
      let before : Log = with_parameters f 0 ats first in
      let j : Grown w p m before = a f first inside (i.scope, called) z.holds in
      let on : StandsAt before f inner = here-parameters f inner f 0 ats first inside in
      let shape : IsTrue (is_shaped e) = second_true (nat_lt 0 (length ns) && nat_eq (length ats) (length ns)) _ (first_true _ true t) in
      let r : GrownTo w m l (added f e before) (bound_node w e) (node_place e) inner.scope body = c f before on shape j.holds in
      let stand : FunctionStand = record { at = at; first = length g.names; names = ns; places = ats; right = e; home = k } in
      let row : Body = record { scope = inner.scope; body = body } in
      let own : number ≡ length g.names = count ∙ pairs-count (λ i r s. IsNameRow w g.scopes (nodes_in w o) r s) 0 o.names g.names h.names in
      grown-then w o l n _ _ (grown-then w o m l _ _ (grown-then w o p m _ _ z j) r.grown)
      (close-grown w l n (added f e before) stand (function_key at number i.level) row r.grown.holds s (λ j. function_key at (own j) (sym u.0 j)) r.within
      r.is (here-tree f inner f e before on).1 (
        i.scope,
        scope-kept p.scopes l.scopes (begins-then p.scopes m.scopes l.scopes j.outer r.grown.outer)
            inner.scope i.scope CalledScope called,
        r.stands,
      ) r.noted)

  -- a definition, from its right side
  kind-added : (o m n l : Lists) (i d h : Here) (at : ℕ) (x : List ℕ) (y : DefKind) (first body : ℕ) → OpensRight w o m i d y h
      → AddsTree w m (link w n) h (right_of y) body → first ≡ length o.names → ClosesRight n l i at y first (record { scope = h.scope; body = body })
      → AddsDefs w o (link w l) i d (def_of at x y no_defs)
  kind-added o m n l i d h at x (PlainKind e) first body opens a count s =
      plain-added o (link w n) (link w l) i d at x e body
      (subst (λ z. AddsTree w z (link w n) i e body) opens.0 (subst (λ z. AddsTree w m (link w n) z e body) opens.1 a)) (ap (link w) s)
  kind-added o m n l i d h at x (FunctionKind ps ats e) first body opens a count s =
      function-opened o opens.0 m (link w n) (link w l) i h d at first x ps ats e body opens.1 opens.2 opens.3 a count (ap (link w) s)
  kind-added o m n l i d h at x (CurrentKind e) first body opens a count s =
      current-added o (link w n) (link w l) i d at x e body
      (subst (λ z. AddsTree w z (link w n) d e body) opens.0 (subst (λ z. AddsTree w m (link w n) z e body) opens.1 a)) (ap (link w) s)

  pub right-added : (o m n l : Lists) (i d h : Here) (x : Def) (first body : ℕ) → OpensRight w o m i d x.kind h
      → AddsTree w m (link w n) h (right_of x.kind) body → first ≡ length o.names
      → ClosesRight n l i x.at x.kind first (record { scope = h.scope; body = body }) → AddsDefs w o (link w l) i d (one_def x no_defs)
  right-added o m n l i d h x first body opens a count s = kind-added o m n l i d h x.at x.name x.kind first body opens a count s
