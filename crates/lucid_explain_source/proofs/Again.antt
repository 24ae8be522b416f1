-- Where a name stands again in a tree, an earlier definition of it is in scope, or the function in whose parameters it does.
use Rattle.lucid_explain_source.proofs.Common.{◌≡◌, ℕ, suc, ◌≤◌, ◌<◌, inl, inr, List, [], ◌∷◌, ◌++◌, Bool, true, false, refl, ap, sym, ◌∙◌, arith, Def, find, list_any, nat_eq, ◌||◌, if◌then◌else◌}
use Rattle.std.specs.Prelude.{Some, IsSome, ◌⊎◌}
use Rattle.std.specs.List.{filter}
use Rattle.std.proofs.lemmas.Bool.{or_left, or_right}
use Rattle.lucid_value.specs.Plain.{same_bytes}
use Rattle.lucid_tree.specs.Env.{same_name}
use Rattle.lucid_tree.specs.Members.{In}
use Rattle.lucid_tree.proofs.Members.{in_left, in_right, in_either}
use Rattle.lucid_tree.specs.declared.tree.DefKind.TheVariants.{Plain, Function, Current}
use Rattle.lucid_tree.specs.Tree.{PlainTree, form, name, call, block, PlainTrees, no_trees, tree, PlainDefs, no_defs, defines, defines_function, defines_current}
use Rattle.lucid_scope.specs.Scope.{Static, in_block, in_function}
use Rattle.lucid_scope.specs.Sites.{again, Earlier, also, no_names, again_if, repeats, sites, sites_in, outside_sites, inside_sites}
use Rattle.lucid_explain_source.specs.Scopes.{one_of, listed, is_headed, has_place, sees_block, listed_if, in_scope, in_scope_in, in_scope_defs}
use Rattle.lucid_explain_source.specs.Names.{heads, is_before, earlier, headed}
use Rattle.lucid_explain_source.proofs.Rising.{Rises, RiseIn, DefsRise}

-- Among the definitions one stands at the place, and one of the same name before it; or one has a parameter there.
pub data Known (at : ℕ) (defs : List Def) : Type 0 where
  before : (d other : Def) → In d defs → In other defs → d.at ≡ at → other.at < at → same_bytes d.name other.name ≡ true → Known at defs
  among : (d : Def) → In d defs → is_headed at d.at d.kind ≡ true → Known at defs

known_left : (at : ℕ) (xs ys : List Def) → Known at xs → Known at (xs ++ ys)
known_left at xs ys (before d other h i e l n) = before d other (in_left d xs ys h) (in_left other xs ys i) e l n
known_left at xs ys (among d h e) = among d (in_left d xs ys h) e

known_right : (at : ℕ) (xs ys : List Def) → Known at ys → Known at (xs ++ ys)
known_right at xs ys (before d other h i e l n) = before d other (in_right d xs ys h) (in_right other xs ys i) e l n
known_right at xs ys (among d h e) = among d (in_right d xs ys h) e

-- a site where a name stands again is that of its place
again_here : (b : Bool) (p at : ℕ) → In (again at) (again_if b p) → (b ≡ true) × (at ≡ p)
again_here true p at (inl e) = (refl, cc)
again_here true p at (inr h) = absurd h
again_here false p at h = absurd h

-- a place at which a list repeats a name is one of the list's
repeated : (test : Earlier) (ns : List (List ℕ)) (ats : List ℕ) (at : ℕ) → In (again at) (repeats test ns ats) → list_any (λ place. nat_eq place at) ats ≡ true
repeated test [] ats at h = absurd h
repeated test (n ∷ ns) [] at h = absurd h
repeated test (n ∷ ns) (p ∷ ats) at h = elim (in_either (again at) (again_if (test n) p) (repeats (also n test) ns ats) h) [
  | inl here ↦ let e = (again_here (test n) p at here).1 in grind (arith, e)
  | inr there ↦ let e = repeated (also n test) ns ats at there in grind (arith, e)
]

-- the names that stand earlier are those of definitions of the block that stand below a place
abbrev Heads : (whole : PlainDefs) → (low : ℕ) → Earlier → Type 0
Heads whole low test = (x : List ℕ) → test x ≡ true → (d : Def) × In d (listed whole) × (d.at < low) × (same_bytes x d.name ≡ true)

-- one definition more
head_or : (whole : PlainDefs) (low : ℕ) (test : Earlier) (d : Def) → Heads whole low test → low ≤ d.at → In d (listed whole) → (x : List ℕ) (b : Bool)
    → same_name x d.name ≡ b
    → (b || test x) ≡ true → (o : Def) × In o (listed whole) × (o.at < suc d.at) × (same_bytes x o.name ≡ true)
head_or whole low test d h l i x true e t = (d, i, omega arith, e)
head_or whole low test d h l i x false e t = let r = h x t in (r.0, r.1, omega (arith, r.2, l), r.3)

heads_and : (whole : PlainDefs) (low : ℕ) (test : Earlier) (d : Def) → Heads whole low test → low ≤ d.at → In d (listed whole)
    → Heads whole (suc d.at) (also d.name test)
heads_and whole low test d h l i x t = head_or whole low test d h l i x (same_name x d.name) refl t

-- where a block is seen, a definition of it that stands again is known
seen : (sees : Bool) (whole : PlainDefs) (at : ℕ) (more : List Def) → sees ≡ true → Known at (listed whole) → Known at (listed_if sees whole ++ more)
seen true whole at more e k = known_left at (listed whole) more k
seen false whole at more e k = absurd (grind (arith, e))

-- the definition at a place repeats a name
again_known : (whole : PlainDefs) (low : ℕ) (test : Earlier) (d : Def) (at : ℕ) → Heads whole low test → low ≤ d.at → In d (listed whole) → test d.name ≡ true
    → at ≡ d.at
    → Known at (listed whole)
again_known whole low test d at h l i t e =
    let r = h d.name t in
    before d r.0 i r.1 (sym e) (omega (arith, r.2, l, e)) r.3

at_itself : (p at : ℕ) → at ≡ p → nat_eq p at ≡ true
at_itself p at e = grind (arith, e)

abbrev Listed : (ds whole : PlainDefs) → Type 0
Listed ds whole = (d : Def) → In d (listed ds) → In d (listed whole)

mutual
  -- what is known of a tree's sites
  again_in : (k : Static) (e : PlainTree) (at : ℕ) → Rises e → In (again at) (sites k e) → Known at (in_scope at e)
  again_in k (form p f es) at r h = again_in_all k es at r h
  again_in k (name p x) at r (inl e) = absurd (cc)
  again_in k (name p x) at r (inr h) = absurd h
  again_in k (call p x es) at r (inl e) = absurd (cc)
  again_in k (call p x es) at r (inr h) = again_in_all k es at r h
  again_in k (block p e ds) at r h =
      let rest = listed_if (has_place at e) ds ++ in_scope_defs at ds ds in
      elim (in_either (again at) (outside_sites k ds) (sites (in_block ds k) e ++ inside_sites (in_block ds k) no_names ds) h) [
        | inl outside ↦
            known_right at (in_scope at e) rest
            (known_right at (listed_if (has_place at e) ds) (in_scope_defs at ds ds) (again_outside k ds ds at r.1.0 r.1.1 r.1.2 outside))
        | inr inside ↦ elim (in_either (again at) (sites (in_block ds k) e) (inside_sites (in_block ds k) no_names ds) inside) [
          | inl subject ↦ known_left at (in_scope at e) rest (again_in (in_block ds k) e at r.0 subject)
          | inr defs ↦
              known_right at (in_scope at e) rest
              (known_right at (listed_if (has_place at e) ds) (in_scope_defs at ds ds)
              (again_inside (in_block ds k) ds ds no_names at r.1.0 r.1.1 r.1.2 (λ d i. i) (λ x t. absurd (grind (arith, t))) defs))
        ]
      ]

  again_in_all : (k : Static) (es : PlainTrees) (at : ℕ) → RiseIn es → In (again at) (sites_in k es) → Known at (in_scope_in at es)
  again_in_all k no_trees at r h = absurd h
  again_in_all k (tree e es) at r h = elim (in_either (again at) (sites k e) (sites_in k es) h) [
    | inl here ↦ known_left at (in_scope at e) (in_scope_in at es) (again_in k e at r.0 here)
    | inr there ↦ known_right at (in_scope at e) (in_scope_in at es) (again_in_all k es at r.1 there)
  ]

  again_outside : (k : Static) (whole ds : PlainDefs) (at low high : ℕ) → DefsRise low ds high → In (again at) (outside_sites k ds)
      → Known at (in_scope_defs at whole ds)
  again_outside k whole no_defs at low high r h = absurd h
  again_outside k whole (defines p x e ds) at low high r h =
      known_right at (in_scope at e) _ (known_right at (listed_if (sees_block at p (Plain e) (has_place at e)) whole) (in_scope_defs at whole ds)
      (again_outside k whole ds at (suc p) high r.2 h))
  again_outside k whole (defines_function p x ns ats e ds) at low high r h =
      known_right at (in_scope at e) _
      (known_right at (listed_if (sees_block at p (Function ns ats e) (has_place at e)) whole) (in_scope_defs at whole ds)
      (again_outside k whole ds at (suc p) high r.2 h))
  again_outside k whole (defines_current p x e ds) at low high r h = elim (in_either (again at) (sites k e) (outside_sites k ds) h) [
    | inl here ↦ known_left at (in_scope at e) _ (again_in k e at r.1 here)
    | inr there ↦
        known_right at (in_scope at e) _
        (known_right at (listed_if (sees_block at p (Current e) (has_place at e)) whole) (in_scope_defs at whole ds)
        (again_outside k whole ds at (suc p) high r.2 there))
  ]

  again_inside : (k : Static) (whole ds : PlainDefs) (test : Earlier) (at low high : ℕ) → DefsRise low ds high → Listed ds whole → Heads whole low test
      → In (again at) (inside_sites k test ds) → Known at (in_scope_defs at whole ds)
  again_inside k whole no_defs test at low high r i g h = absurd h
  again_inside k whole (defines p x e ds) test at low high r i g h =
      let d = one_of p x (Plain e) in
      let block = listed_if (sees_block at p (Plain e) (has_place at e)) whole in
      let rest = in_scope_defs at whole ds in
      elim (in_either (again at) (again_if (test x) p) (sites k e ++ inside_sites k (also x test) ds) h) [
        | inl here ↦
            let a = again_here (test x) p at here in
            known_right at (in_scope at e) (block ++ rest)
            (seen (sees_block at p (Plain e) (has_place at e)) whole at rest (or_left (nat_eq p at) (has_place at e) (at_itself p at a.1))
            (again_known whole low test d at g r.0 (i d (inl refl)) a.0 a.1))
        | inr more ↦ elim (in_either (again at) (sites k e) (inside_sites k (also x test) ds) more) [
          | inl right ↦ known_left at (in_scope at e) (block ++ rest) (again_in k e at r.1 right)
          | inr there ↦
              known_right at (in_scope at e) (block ++ rest)
              (known_right at block rest
              (again_inside k whole ds (also x test) at (suc p) high r.2 (λ o j. i o (inr j)) (heads_and whole low test d g r.0 (i d (inl refl))) there))
        ]
      ]
  again_inside k whole (defines_function p x ns ats e ds) test at low high r i g h =
      let d = one_of p x (Function ns ats e) in
      let block = listed_if (sees_block at p (Function ns ats e) (has_place at e)) whole in
      let rest = in_scope_defs at whole ds in
      elim (in_either (again at) (again_if (test x) p) ((repeats no_names ns ats ++ sites (in_function p ns ats k) e) ++ inside_sites k (also x test) ds) h) [
        | inl here ↦
            let a = again_here (test x) p at here in
            known_right at (in_scope at e) (block ++ rest)
            (seen (sees_block at p (Function ns ats e) (has_place at e)) whole at rest
            (or_left (is_headed at p (Function ns ats e)) (has_place at e) (or_left (nat_eq p at) _ (at_itself p at a.1)))
            (again_known whole low test d at g r.0 (i d (inl refl)) a.0 a.1))
        | inr more ↦ elim (in_either (again at) (repeats no_names ns ats ++ sites (in_function p ns ats k) e) (inside_sites k (also x test) ds) more) [
          | inl own ↦ elim (in_either (again at) (repeats no_names ns ats) (sites (in_function p ns ats k) e) own) [
            | inl parameters ↦
                let heads : is_headed at p (Function ns ats e) ≡ true = or_right (nat_eq p at) _ (repeated no_names ns ats at parameters) in
                known_right at (in_scope at e) (block ++ rest)
                (seen (sees_block at p (Function ns ats e) (has_place at e)) whole at rest (or_left (is_headed at p (Function ns ats e)) (has_place at e) heads)
                (among d (i d (inl refl)) heads))
            | inr right ↦ known_left at (in_scope at e) (block ++ rest) (again_in (in_function p ns ats k) e at r.1 right)
          ]
          | inr there ↦
              known_right at (in_scope at e) (block ++ rest)
              (known_right at block rest
              (again_inside k whole ds (also x test) at (suc p) high r.2 (λ o j. i o (inr j)) (heads_and whole low test d g r.0 (i d (inl refl))) there))
        ]
      ]
  again_inside k whole (defines_current p x e ds) test at low high r i g h =
      let d = one_of p x (Current e) in
      let block = listed_if (sees_block at p (Current e) (has_place at e)) whole in
      let rest = in_scope_defs at whole ds in
      elim (in_either (again at) (again_if (test x) p) (inside_sites k (also x test) ds) h) [
        | inl here ↦
            let a = again_here (test x) p at here in
            known_right at (in_scope at e) (block ++ rest)
            (seen (sees_block at p (Current e) (has_place at e)) whole at rest (at_itself p at a.1)
            (again_known whole low test d at g r.0 (i d (inl refl)) a.0 a.1))
        | inr there ↦
            known_right at (in_scope at e) (block ++ rest)
            (known_right at block rest
            (again_inside k whole ds (also x test) at (suc p) high r.2 (λ o j. i o (inr j)) (heads_and whole low test d g r.0 (i d (inl refl))) there))
      ]

-- what is found where one stands among them
found_some : {X : Type 0} (p : X → Bool) (y : X) (b : Bool) (xs : List X) → b ≡ true ⊎ IsSome (find p xs) → IsSome (if b then Some y else find p xs)
found_some p y true xs h = refl
found_some p y false xs (inl e) = absurd (grind (arith, e))
found_some p y false xs (inr f) = f

find_among : {X : Type 0} (p : X → Bool) (x : X) (xs : List X) → In x xs → p x ≡ true → IsSome (find p xs)
find_among p x [] h e = absurd h
find_among p x (y ∷ ys) (inl q) e = found_some p y (p y) ys (inl (ap p (sym q) ∙ e))
find_among p x (y ∷ ys) (inr h) e = found_some p y (p y) ys (inr (find_among p x ys h e))

any_kept : {X : Type 0} (q p : X → Bool) (y : X) (b : Bool) (ys : List X) → (b ≡ true) × (q y ≡ true) ⊎ (list_any q (filter p ys) ≡ true)
    → list_any q (if b then y ∷ filter p ys else filter p ys) ≡ true
any_kept q p y true ys (inl e) = grind (arith, e.1)
any_kept q p y true ys (inr f) = grind (arith, f)
any_kept q p y false ys (inl e) = absurd (grind (arith, e.0))
any_kept q p y false ys (inr f) = f

any_among : {X : Type 0} (q p : X → Bool) (x : X) (xs : List X) → In x xs → p x ≡ true → q x ≡ true → list_any q (filter p xs) ≡ true
any_among q p x [] h e f = absurd h
any_among q p x (y ∷ ys) (inl s) e f = any_kept q p y (p y) ys (inl (ap p (sym s) ∙ e, ap q (sym s) ∙ f))
any_among q p x (y ∷ ys) (inr h) e f = any_kept q p y (p y) ys (inr (any_among q p x ys h e f))

pub known_told : (at : ℕ) (defs : List Def) → Known at defs → IsSome (earlier at defs) ⊎ IsSome (headed at defs)
known_told at defs (before d other h i e l n) =
    let same : list_any (λ (o : Def). same_bytes o.name other.name) (heads at defs) ≡ true =
    any_among (λ (o : Def). same_bytes o.name other.name) (λ (o : Def). nat_eq o.at at) d defs h (grind (arith, e)) n in
    let fits : is_before at (heads at defs) other ≡ true = grind (arith, same, l) in
    inl (find_among (is_before at (heads at defs)) other defs i fits)
known_told at defs (among d h e) = inr (find_among (λ (o : Def). is_headed at o.at o.kind) d defs h e)

pub again_told : (k : Static) (e : PlainTree) (at : ℕ) → Rises e → In (again at) (sites k e)
    → IsSome (earlier at (in_scope at e)) ⊎ IsSome (headed at (in_scope at e))
again_told k e at r h = known_told at (in_scope at e) (again_in k e at r h)
