-- The search over the nodes finds the least place at a depth.
use Rattle.lucid_parse.proofs.Common.{◌≡◌, ℕ, suc, ◌+◌, ◌≤◌, ◌<◌, List, [], ◌∷◌, ◌++◌, map, reverse, Option, Some, None, Bool, true, false, cond, ◌⊎◌, inl, inr, refl, sym, ◌∙◌, ap, subst, arith, add-one, append_assoc, append-nil, length, cases_lt, ne_eqb, eqb-false, reverse-append, PlainTree, form, call, block, PlainTrees, no_trees, tree, PlainDefs, no_defs, defines, defines_function, defines_current, count, depth, Item, PlacedTerminal, trees_and, defs_and, Defined, Plain, Function, Current, Parameter, arity_of, Spells, SpellsArgs, SpellsDefs, PlainItem, fill_item, written, written_parts, written_all, written_defs, with_parameters, at_depth, IsLeast, least_in, copies, search_from, pred, min, Contains, eqb, All-nil, All-cons, All-weaker}
use Rattle.lucid_tree.specs.Tree.{name}
use Rattle.lucid_tree.specs.WellMade.{depths, depths_in_defs}
use Rattle.lucid_parse.specs.declared.state.Item.TheVariants as item
use Rattle.lucid_parse.specs.declared.state.Defines.TheVariants as kind
use Rattle.lucid_parse.specs.Grammar
use Rattle.lucid_parse.specs.Depth.{here, at_depth_in, at_depth_in_defs, lesser, found, below}
use Rattle.lucid_parse.proofs.Levels.{infix_arity, prefix_arity, node-operator}
use Rattle.lucid_parse.proofs.Complete.{written_parts-and, written_all-and, written_defs-and, count-and}
use Rattle.lucid_parse.specs.declared.operator.Operator.TheVariants.{Stream}
use Rattle.lucid_tree.specs.declared.form.Form.TheVariants as forms

least_in-append : (best : Option ℕ) (xs ys : List ℕ) → least_in best (xs ++ ys) ≡ least_in (least_in best ys) xs
least_in-append best [] ys = refl
least_in-append best (x ∷ xs) ys = ap (lesser x) (least_in-append best xs ys)

-- from the end of the list
pub from_end : List PlainItem → List ℕ → Option ℕ → Option ℕ
from_end out ds best = search_from (reverse out) ds best

from_end-push : (out : List PlainItem) (i : PlainItem) (d : ℕ) (ds : List ℕ) (best : Option ℕ)
    → from_end (out ++ i ∷ []) (d ∷ ds) best ≡ from_end out (below i d ds) (found i d best)
unfolding from_end
from_end-push out i d ds best = ap (λ l. search_from l (d ∷ ds) best) (reverse-append out (i ∷ []))

-- the same where the node is an equal one
from_end-as : (out : List PlainItem) (other i : PlainItem) (d : ℕ) (ds : List ℕ) (best : Option ℕ) → other ≡ i
    → from_end (out ++ other ∷ []) (d ∷ ds) best ≡ from_end out (below i d ds) (found i d best)
from_end-as out other i d ds best e = ap (λ x. from_end (out ++ x ∷ []) (d ∷ ds) best) e ∙ from_end-push out i d ds best

searched_parameters : (ps : List Parameter) (out : List PlainItem) (d : ℕ) (ds : List ℕ) (best : Option ℕ)
    → from_end (with_parameters out ps) (d ∷ ds) best ≡ from_end out (d ∷ ds) best
searched_parameters [] out d ds best = refl
searched_parameters (p ∷ ps) out d ds best = searched_parameters ps (out ++ item.Param p.at p.name ∷ []) d ds best
    ∙ from_end-push out (item.Param p.at p.name) d ds best

at_depth_in-and : (d : ℕ) (ts : PlainTrees) (t : PlainTree) → at_depth_in d (trees_and ts t) ≡ at_depth_in d ts ++ at_depth d t
unfolding at_depth
at_depth_in-and d no_trees t = append-nil (at_depth d t)
at_depth_in-and d (tree s ts) t = ap (λ l. at_depth d s ++ l) (at_depth_in-and d ts t) ∙ sym (append_assoc (at_depth d s) (at_depth_in d ts) (at_depth d t))

at_depth_in_defs-and : (d : ℕ) (ds : PlainDefs) (at : ℕ) (n : List ℕ) (h : Defined) (t : PlainTree)
    → at_depth_in_defs d (defs_and ds at n h t) ≡ at_depth_in_defs d ds ++ at_depth d t
unfolding at_depth
at_depth_in_defs-and d no_defs at n Plain t = append-nil (at_depth d t)
at_depth_in_defs-and d no_defs at n (Function ps) t = append-nil (at_depth d t)
at_depth_in_defs-and d no_defs at n Current t = append-nil (at_depth d t)
at_depth_in_defs-and d (defines a m s ds) at n h t = ap (λ l. at_depth d s ++ l) (at_depth_in_defs-and d ds at n h t)
    ∙ sym (append_assoc (at_depth d s) (at_depth_in_defs d ds) (at_depth d t))
at_depth_in_defs-and d (defines_function a m ns ats s ds) at n h t = ap (λ l. at_depth d s ++ l) (at_depth_in_defs-and d ds at n h t)
    ∙ sym (append_assoc (at_depth d s) (at_depth_in_defs d ds) (at_depth d t))
at_depth_in_defs-and d (defines_current a m s ds) at n h t = ap (λ l. at_depth d s ++ l) (at_depth_in_defs-and d ds at n h t)
    ∙ sym (append_assoc (at_depth d s) (at_depth_in_defs d ds) (at_depth d t))

copies-more : (n d : ℕ) (ds : List ℕ) → copies (n + 1) d ds ≡ d ∷ copies n d ds
copies-more n d ds = ap (λ k. copies k d ds) (add-one n)

mutual
  unfolding written at_depth

  searched : {allowed : ℕ} {ws : List PlacedTerminal} {t : PlainTree} → Spells allowed ws t → (out : List PlainItem) (d : ℕ) (ds : List ℕ) (best : Option ℕ)
      → from_end (written out t) (d ∷ ds) best ≡ from_end out ds (least_in best (at_depth d t))
  searched (Grammar.spells_const {at = at} {v = v}) out d ds best = from_end-push out (item.Const at v) d ds best
  searched (Grammar.spells_name {at = at} {n = n}) out d ds best = from_end-push out (item.Name at n) d ds best
  searched (Grammar.spells_infix {at = at} {x = x} {y = y} terminal operator is low sx sy) out d ds best =
      from_end-as (written (written out x) y) _ (item.Operator operator at) d ds best (node-operator operator at)
      ∙ ap (λ n. from_end (written (written out x) y) (copies n (pred d) ds) (least_in best (here d at))) (infix_arity terminal operator is)
      ∙ searched sy (written out x) (pred d) (pred d ∷ ds) (least_in best (here d at))
      ∙ searched sx out (pred d) ds (least_in (least_in best (here d at)) (at_depth (pred d) y))
      ∙ ap (from_end out ds) (sym (simp least_in-append))
  searched (Grammar.spells_prefix {at = at} {x = x} terminal operator is low sx) out d ds best =
      from_end-as (written out x) _ (item.Operator operator at) d ds best (node-operator operator at)
      ∙ ap (λ n. from_end (written out x) (copies n (pred d) ds) (least_in best (here d at))) (prefix_arity terminal operator is)
      ∙ searched sx out (pred d) ds (least_in best (here d at))
      ∙ ap (from_end out ds) (sym (simp least_in-append))
  searched (Grammar.spells_inner close_at sx) out d ds best = searched sx out d ds best
  searched (Grammar.spells_if {at = at} then_at else_at fi_at {x = x} {y = y} {z = z} sx sy sz) out d ds best =
      from_end-push (written (written (written out x) y) z) (item.Operator (Stream forms.If) at) d ds best
      ∙ searched sz (written (written out x) y) (pred d) (pred d ∷ pred d ∷ ds) (least_in best (here d at))
      ∙ searched sy (written out x) (pred d) (pred d ∷ ds) (least_in (least_in best (here d at)) (at_depth (pred d) z))
      ∙ searched sx out (pred d) ds (least_in (least_in (least_in best (here d at)) (at_depth (pred d) z)) (at_depth (pred d) y))
      ∙ ap (from_end out ds) (sym (simp least_in-append))
  searched (Grammar.spells_call {at = at} close_at {n = n} {args = args} sa) out d ds best =
      from_end-push (written_all (out ++ item.NoTrees ∷ []) args) (item.Call at n) d ds best
      ∙ searched_args sa (out ++ item.NoTrees ∷ []) (pred d) ds (least_in best (here d at))
      ∙ from_end-push out item.NoTrees (pred d) ds (least_in (least_in best (here d at)) (at_depth_in (pred d) args))
      ∙ ap (from_end out ds) (sym (least_in-append best (at_depth_in (pred d) args) (here d at)))
  searched (Grammar.spells_called {at = at} close_at terminal operator {args = args} is all sa) out d ds best =
      from_end-as (written_parts out args) _ (item.Operator operator at) d ds best (node-operator operator at)
      ∙ ap (λ n. from_end (written_parts out args) (copies n (pred d) ds) (least_in best (here d at))) (sym all)
      ∙ searched_parts sa out (pred d) ds (least_in best (here d at))
      ∙ ap (from_end out ds) (sym (least_in-append best (at_depth_in (pred d) args) (here d at)))
  searched (Grammar.spells_block {at = at} end_at {x = x} {all = all} low sx sd) out d ds best =
      from_end-push (written_defs (written out x ++ item.NoDefs ∷ []) all) (item.Block at) d ds best
      ∙ searched_defs sd (written out x ++ item.NoDefs ∷ []) (pred d) (pred d ∷ ds) (least_in best (here d at))
      ∙ from_end-push (written out x) item.NoDefs (pred d) (pred d ∷ ds) (least_in (least_in best (here d at)) (at_depth_in_defs (pred d) all))
      ∙ searched sx out (pred d) ds (least_in (least_in best (here d at)) (at_depth_in_defs (pred d) all))
      ∙ ap (from_end out ds) (sym (simp least_in-append))

  searched_parts : {ws : List PlacedTerminal} {args : PlainTrees} → SpellsArgs ws args → (out : List PlainItem) (d : ℕ) (ds : List ℕ) (best : Option ℕ)
      → from_end (written_parts out args) (copies (count args) d ds) best ≡ from_end out ds (least_in best (at_depth_in d args))
  searched_parts (Grammar.spells_one {x = x} sx) out d ds best = searched sx out d ds best ∙ ap (from_end out ds) (sym (simp least_in-append))
  searched_parts (Grammar.spells_more comma_at {all = all} {y = y} sa sy) out d ds best =
      ap (λ o. from_end o (copies (count (trees_and all y)) d ds) best) (written_parts-and out all y)
      ∙ ap (λ l. from_end (written (written_parts out all) y) l best) (ap (λ n. copies n d ds) (count-and all y) ∙ copies-more (count all) d ds)
      ∙ searched sy (written_parts out all) d (copies (count all) d ds) best
      ∙ searched_parts sa out d ds (least_in best (at_depth d y))
      ∙ ap (from_end out ds) (sym (ap (least_in best) (at_depth_in-and d all y) ∙ least_in-append best (at_depth_in d all) (at_depth d y)))

  searched_args : {ws : List PlacedTerminal} {args : PlainTrees} → SpellsArgs ws args → (out : List PlainItem) (d : ℕ) (ds : List ℕ) (best : Option ℕ)
      → from_end (written_all out args) (d ∷ ds) best ≡ from_end out (d ∷ ds) (least_in best (at_depth_in d args))
  searched_args (Grammar.spells_one {x = x} sx) out d ds best =
      from_end-push (written out x) item.More d ds best ∙ searched sx out d (d ∷ ds) best ∙ ap (from_end out (d ∷ ds)) (sym (simp least_in-append))
  searched_args (Grammar.spells_more comma_at {all = all} {y = y} sa sy) out d ds best =
      ap (λ o. from_end o (d ∷ ds) best) (written_all-and out all y)
      ∙ from_end-push (written (written_all out all) y) item.More d ds best
      ∙ searched sy (written_all out all) d (d ∷ ds) best
      ∙ searched_args sa out d ds (least_in best (at_depth d y))
      ∙ ap (from_end out (d ∷ ds)) (sym (ap (least_in best) (at_depth_in-and d all y) ∙ least_in-append best (at_depth_in d all) (at_depth d y)))

  searched_defs : {ws : List PlacedTerminal} {all : PlainDefs} → SpellsDefs ws all → (out : List PlainItem) (d : ℕ) (ds : List ℕ) (best : Option ℕ)
      → from_end (written_defs out all) (d ∷ ds) best ≡ from_end out (d ∷ ds) (least_in best (at_depth_in_defs d all))
  searched_defs Grammar.spells_none out d ds best = refl
  searched_defs (Grammar.spells_def at n equals_at semicolon_at {all = all} {y = y} sd sy) out d ds best =
      ap (λ o. from_end o (d ∷ ds) best) (written_defs-and out all at n Plain y)
      ∙ from_end-push (written (written_defs out all) y) (item.Def kind.Plain at n) d ds best
      ∙ searched sy (written_defs out all) d (d ∷ ds) best
      ∙ searched_defs sd out d ds (least_in best (at_depth d y))
      ∙ ap (from_end out (d ∷ ds)) (sym (ap (least_in best) (at_depth_in_defs-and d all at n Plain y)
      ∙ least_in-append best (at_depth_in_defs d all) (at_depth d y)))
  searched_defs (Grammar.spells_current at n is_at current_at semicolon_at {all = all} {y = y} sd sy) out d ds best =
      ap (λ is_at. from_end is_at (d ∷ ds) best) (written_defs-and out all at n Current y)
      ∙ from_end-push (written (written_defs out all) y) (item.Def kind.Current at n) d ds best
      ∙ searched sy (written_defs out all) d (d ∷ ds) best
      ∙ searched_defs sd out d ds (least_in best (at_depth d y))
      ∙ ap (from_end out (d ∷ ds)) (sym (ap (least_in best) (at_depth_in_defs-and d all at n Current y)
      ∙ least_in-append best (at_depth_in_defs d all) (at_depth d y)))
  searched_defs (Grammar.spells_function at n open_at close_at equals_at semicolon_at {all = all} {parameters = ps} {y = y} sd sn sy) out d ds best =
      let named = with_parameters (written_defs out all ++ item.NoNames ∷ []) ps in
      ap (λ open_at. from_end open_at (d ∷ ds) best) (written_defs-and out all at n (Function ps) y)
      ∙ from_end-push (written named y) (item.Def kind.Function at n) d ds best
      ∙ searched sy named d (d ∷ d ∷ ds) best
      ∙ searched_parameters ps (written_defs out all ++ item.NoNames ∷ []) d (d ∷ ds) (least_in best (at_depth d y))
      ∙ from_end-push (written_defs out all) item.NoNames d (d ∷ ds) (least_in best (at_depth d y))
      ∙ searched_defs sd out d ds (least_in best (at_depth d y))
      ∙ ap (from_end out (d ∷ ds)) (sym (ap (least_in best) (at_depth_in_defs-and d all at n (Function ps) y)
      ∙ least_in-append best (at_depth_in_defs d all) (at_depth d y)))

-- what the search finds in a program
pub search_finds : {allowed : ℕ} {ws : List PlacedTerminal} {t : PlainTree} → Spells allowed ws t → (d : ℕ)
    → search_from (reverse (written [] t)) (d ∷ []) None ≡ least_in None (at_depth d t)
unfolding from_end
search_finds s d = searched s [] d [] None

Contains-first : (x : ℕ) (xs : List ℕ) → Contains (x ∷ xs) x
Contains-first x xs = (0, omega arith, refl)

Contains-later : (x y : ℕ) (xs : List ℕ) → Contains xs y → Contains (x ∷ xs) y
Contains-later x y xs h = (suc h.0, omega (arith, h.1), h.2)

IsLeast-one : (place : ℕ) → IsLeast (place ∷ []) place
IsLeast-one place = record { among = Contains-first place []; least = All-cons (λ q. place ≤ q) place [] (omega arith) (All-nil (λ q. place ≤ q)) }

IsLeast-more : (place other : ℕ) (ps : List ℕ) → IsLeast ps other → IsLeast (place ∷ ps) (min place other)
IsLeast-more place other ps h = elim (cases_le place other) [
  | inl le ↦ subst (IsLeast (place ∷ ps)) (let e : place ≡ min place other = omega arith in e) (record {
    among = Contains-first place ps;
    least = All-cons (λ r. place ≤ r) place ps (omega arith) (All-weaker (λ r. other ≤ r) (λ r. place ≤ r) (λ r k. omega arith) ps h.least);
  })
  | inr le ↦ subst (IsLeast (place ∷ ps)) (let e : other ≡ min place other = omega arith in e) (record {
    among = Contains-later place other ps h.among;
    least = All-cons (λ r. other ≤ r) place ps (omega arith) h.least;
  })
]
  where
    cases_le : (a b : ℕ) → (a ≤ b) ⊎ (b ≤ a)
    cases_le a b = grind arith

pub least_in-none : (ps : List ℕ) → least_in None ps ≡ None → ps ≡ []
least_in-none [] e = refl
least_in-none (p ∷ ps) e = no (least_in None ps) e
  where
    no : (o : Option ℕ) → lesser p o ≡ None → p ∷ ps ≡ []
    no None f = cc
    no (Some q) f = cc

pub least_in-some : (ps : List ℕ) (at : ℕ) → least_in None ps ≡ Some at → IsLeast ps at
least_in-some [] at e = cc
least_in-some (p ∷ []) at e = let same : p ≡ at = cc in subst (IsLeast (p ∷ [])) same (IsLeast-one p)
least_in-some (p ∷ (r ∷ ps)) at e = of (least_in None (r ∷ ps)) refl e (λ q f. least_in-some (r ∷ ps) q f)
  where
    of : (o : Option ℕ) → least_in None (r ∷ ps) ≡ o → lesser p o ≡ Some at → ((q : ℕ) → least_in None (r ∷ ps) ≡ Some q → IsLeast (r ∷ ps) q)
        → IsLeast (p ∷ (r ∷ ps)) at
    of None f g k = absurd (not_none (least_in None ps) f)
      where
        not_none : (o : Option ℕ) → lesser r o ≡ None → ⊥
        not_none None h = cc
        not_none (Some q) h = cc
    of (Some q) f g k = let same : min p q ≡ at = cc in subst (IsLeast (p ∷ (r ∷ ps))) same (IsLeast-more p q (r ∷ ps) (k q f))

none2 : (xs ys : List ℕ) → xs ≡ [] → ys ≡ [] → xs ++ ys ≡ []
none2 [] ys e f = f
none2 (x ∷ xs) ys e f = cc

split2 : (xs ys : List ℕ) → xs ++ ys ≡ [] → (xs ≡ []) × (ys ≡ [])
split2 [] ys e = (refl, e)
split2 (x ∷ xs) ys e = cc

here-none : (d at : ℕ) → 1 < d → here d at ≡ []
here-none d at h = ap (λ b. cond b (at ∷ []) []) (ne_eqb d 1 (λ e. omega (arith, e)))

here-past : (d at : ℕ) → here d at ≡ [] → 1 ≤ d → 1 < d
here-past d at e h = of (eqb d 1) refl e
  where
    of : (b : Bool) → eqb d 1 ≡ b → cond b (at ∷ []) [] ≡ [] → 1 < d
    of true s f = cc
    of false s f = omega (arith, h, eqb-false d 1 s)

mutual
  unfolding at_depth

  shallow : (t : PlainTree) (d : ℕ) → depth t < d → at_depth d t ≡ []
  shallow (form at f es) d h = none2 _ _ (shallow_in es (pred d) (omega arith)) (here-none d at (omega arith))
  shallow (name at n) d h = here-none d at h
  shallow (call at n es) d h = none2 _ _ (shallow_in es (pred d) (omega arith)) (here-none d at (omega arith))
  shallow (block at e ds) d h =
      none2 _ _ (shallow e (pred d) (omega arith)) (none2 _ _ (shallow_in_defs ds (pred d) (omega arith)) (here-none d at (omega arith)))

  shallow_in : (ts : PlainTrees) (d : ℕ) → depths ts < d → at_depth_in d ts ≡ []
  shallow_in no_trees d h = refl
  shallow_in (tree t ts) d h = none2 _ _ (shallow t d (omega arith)) (shallow_in ts d (omega arith))

  shallow_in_defs : (all : PlainDefs) (d : ℕ) → depths_in_defs all < d → at_depth_in_defs d all ≡ []
  shallow_in_defs no_defs d h = refl
  shallow_in_defs (defines at n t all) d h = none2 _ _ (shallow t d (omega arith)) (shallow_in_defs all d (omega arith))
  shallow_in_defs (defines_function at n ns ats t all) d h = none2 _ _ (shallow t d (omega arith)) (shallow_in_defs all d (omega arith))
  shallow_in_defs (defines_current at n t all) d h = none2 _ _ (shallow t d (omega arith)) (shallow_in_defs all d (omega arith))

mutual
  unfolding at_depth

  pub filled : (t : PlainTree) (d : ℕ) → at_depth d t ≡ [] → 1 ≤ d → depth t < d
  filled (form at f es) d e h =
      let s = split2 (at_depth_in (pred d) es) (here d at) e in
      let two : 1 < d = here-past d at s.1 h in
      omega (arith, filled_in es (pred d) s.0 (omega arith), two)
  filled (name at n) d e h = here-past d at e h
  filled (call at n es) d e h =
      let s = split2 (at_depth_in (pred d) es) (here d at) e in
      let two : 1 < d = here-past d at s.1 h in
      omega (arith, filled_in es (pred d) s.0 (omega arith), two)
  filled (block at x all) d e h =
      let s = split2 (at_depth (pred d) x) (at_depth_in_defs (pred d) all ++ here d at) e in
      let t = split2 (at_depth_in_defs (pred d) all) (here d at) s.1 in
      let two : 1 < d = here-past d at t.1 h in
      omega (arith, filled x (pred d) s.0 (omega arith), filled_in_defs all (pred d) t.0 (omega arith), two)

  filled_in : (ts : PlainTrees) (d : ℕ) → at_depth_in d ts ≡ [] → 1 ≤ d → depths ts < d
  filled_in no_trees d e h = omega arith
  filled_in (tree t ts) d e h = let s = split2 (at_depth d t) (at_depth_in d ts) e in omega (arith, filled t d s.0 h, filled_in ts d s.1 h)

  filled_in_defs : (all : PlainDefs) (d : ℕ) → at_depth_in_defs d all ≡ [] → 1 ≤ d → depths_in_defs all < d
  filled_in_defs no_defs d e h = omega arith
  filled_in_defs (defines at n t all) d e h = let s = split2 (at_depth d t) (at_depth_in_defs d all) e in
      omega (arith, filled t d s.0 h, filled_in_defs all d s.1 h)
  filled_in_defs (defines_function at n ns ats t all) d e h = let s = split2 (at_depth d t) (at_depth_in_defs d all) e in
      omega (arith, filled t d s.0 h, filled_in_defs all d s.1 h)
  filled_in_defs (defines_current at n t all) d e h = let s = split2 (at_depth d t) (at_depth_in_defs d all) e in
      omega (arith, filled t d s.0 h, filled_in_defs all d s.1 h)

-- a tree with a place at a depth is that deep
pub deep : (t : PlainTree) (d at : ℕ) → Contains (at_depth d t) at → d ≤ depth t
deep t d at h = elim (cases_lt (depth t) d) [
  | inl lt ↦ let none = shallow t d lt in let len : length (at_depth d t) ≡ 0 = ap length none in absurd (omega (arith, h.1, len))
  | inr le ↦ le
]

pub search_from-over : {N V : Type 0} (is : List (Item N V)) (best : Option ℕ) → search_from is [] best ≡ best
search_from-over [] best = refl
search_from-over (i ∷ is) best = refl

-- The search looks at no name and no value.
module _ {M N V W : Type 0} (f : M → N) (g : V → W) where
  found-filled : (i : Item M V) (d : ℕ) (best : Option ℕ) → found (fill_item f g i) d best ≡ found i d best
  found-filled (item.Const at v) d best = refl
  found-filled (item.Name at n) d best = refl
  found-filled (item.Operator operator at) d best = refl
  found-filled (item.Call at n) d best = refl
  found-filled (item.Block at) d best = refl
  found-filled _ d best = refl

  below-filled : (i : Item M V) (d : ℕ) (ds : List ℕ) → below (fill_item f g i) d ds ≡ below i d ds
  below-filled (item.Operator operator at) d ds = refl
  below-filled (item.Call at n) d ds = refl
  below-filled (item.Block at) d ds = refl
  below-filled item.More d ds = refl
  below-filled (item.Def kind.Function at n) d ds = refl
  below-filled (item.Def kind.Plain at n) d ds = refl
  below-filled (item.Def kind.Current at n) d ds = refl
  below-filled (item.Param at n) d ds = refl
  below-filled _ d ds = refl

  pub search_from-filled : (is : List (Item M V)) (ds : List ℕ) (best : Option ℕ) → search_from (map (fill_item f g) is) ds best ≡ search_from is ds best
  search_from-filled [] ds best = refl
  search_from-filled (i ∷ is) [] best = refl
  search_from-filled (i ∷ is) (d ∷ ds) best =
      ap (λ l. search_from (map (fill_item f g) is) l (found (fill_item f g i) d best)) (below-filled i d ds)
      ∙ ap (search_from (map (fill_item f g) is) (below i d ds)) (found-filled i d best)
      ∙ search_from-filled is (below i d ds) (found i d best)
