-- The nodes of a tree that is spelled build it.
use Rattle.lucid_parse.proofs.Common.{◌≡◌, ℕ, suc, ◌+◌, ◌<◌, ◌≤◌, length, take, drop, get_or, List, [], ◌∷◌, ◌++◌, Option, Some, None, option_and_then, refl, sym, ◌∙◌, ap, arith, append_assoc, append-nil, take_more, take_all, take-append-drop, PlainTree, form, call, block, PlainTrees, no_trees, tree, PlainDefs, no_defs, defines, defines_function, defines_current, count, trees_of, Operator, PlacedTerminal, trees_and, defs_and, Defined, Plain, Function, Current, Parameter, names_of, places_of, arity_of, head, Spells, SpellsArgs, SpellsDefs, PlainItem, written, written_parts, written_all, written_defs, with_parameters, PlainPiles, no_piles, gather, put_on, built}
use Rattle.lucid_tree.specs.DefsView.{defs_of}
use Rattle.lucid_tree.specs.declared.tree.Def.{Def}
use Rattle.lucid_tree.specs.declared.tree.DefKind.{DefKind}
use Rattle.lucid_tree.specs.declared.tree.DefKind.TheVariants as def_kind
use Rattle.lucid_parse.specs.declared.state.Item.TheVariants as item
use Rattle.lucid_parse.specs.declared.state.Defines.TheVariants as kind
use Rattle.lucid_parse.specs.Grammar
use Rattle.lucid_parse.specs.Build.{piles, definition}
use Rattle.lucid_parse.proofs.Levels.{infix_arity, prefix_arity, node-operator}
use Rattle.lucid_parse.proofs.Complete.{written_parts-and, written_all-and, written_defs-and}
use Rattle.lucid_parse.proofs.Exact.{spelled_nodes}
use Rattle.lucid_parse.specs.declared.operator.Operator.TheVariants.{Stream}
use Rattle.lucid_tree.specs.declared.form.Form.TheVariants as forms

over : (f g : PlainPiles → Option PlainPiles) (h : PlainPiles → Option PlainPiles) (o : Option PlainPiles)
    → ((now : PlainPiles) → f now ≡ option_and_then h (g now))
    → option_and_then f o ≡ option_and_then h (option_and_then g o)
over f g h None k = refl
over f g h (Some now) k = k now

last : (o : Option PlainPiles) → option_and_then (built []) o ≡ o
last None = refl
last (Some now) = refl

pub built-push : (out : List PlainItem) (i : PlainItem) (from : PlainPiles) → built (out ++ i ∷ []) from ≡ option_and_then (put_on i) (built out from)
built-push [] i from = last (put_on i from)
built-push (x ∷ out) i from = over (built (out ++ i ∷ [])) (built out) (put_on i) (put_on x from) (λ now. built-push out i now)

grow : (out : List PlainItem) (i : PlainItem) (from now after : PlainPiles) → built out from ≡ Some now → put_on i now ≡ Some after
    → built (out ++ i ∷ []) from ≡ Some after
grow out i from now after e f = built-push out i from ∙ ap (option_and_then (put_on i)) e ∙ f

-- the same where the node is an equal one
grow_as : (out : List PlainItem) (j i : PlainItem) (from now after : PlainPiles) → j ≡ i → built out from ≡ Some now → put_on i now ≡ Some after
    → built (out ++ j ∷ []) from ≡ Some after
grow_as out j i from now after s e f = ap (λ x. built (out ++ x ∷ []) from) s ∙ grow out i from now after e f

-- piles with one more on top
abbrev with_tree : PlainTree → PlainPiles → PlainPiles
with_tree t now = piles (t ∷ now.trees) now.lists now.names now.places now.blocks

abbrev with_list : List PlainTree → PlainPiles → PlainPiles
with_list l now = piles now.trees (l ∷ now.lists) now.names now.places now.blocks

abbrev with_names : List (List ℕ) → List ℕ → PlainPiles → PlainPiles
with_names ns ats now = piles now.trees now.lists (ns ∷ now.names) (ats ∷ now.places) now.blocks

abbrev with_block : List Def → PlainPiles → PlainPiles
with_block ds now = piles now.trees now.lists now.names now.places (ds ∷ now.blocks)

-- trees on a pile, the last on top
abbrev piled : PlainTrees → List PlainTree → List PlainTree
piled no_trees ts = ts
piled (tree t more) ts = piled more (t ∷ ts)

abbrev with_trees : PlainTrees → PlainPiles → PlainPiles
with_trees parts now = piles (piled parts now.trees) now.lists now.names now.places now.blocks

piled-and : (parts : PlainTrees) (t : PlainTree) (ts : List PlainTree) → piled (trees_and parts t) ts ≡ t ∷ piled parts ts
piled-and no_trees t ts = refl
piled-and (tree s parts) t ts = piled-and parts t (s ∷ ts)

abbrev in_front : PlainTrees → PlainTrees → PlainTrees
in_front no_trees more = more
in_front (tree t ts) more = tree t (in_front ts more)

in_front-none : (ts : PlainTrees) → in_front ts no_trees ≡ ts
in_front-none no_trees = refl
in_front-none (tree t ts) = ap (tree t) (in_front-none ts)

-- taking as many as were put, over any that were taken since
gathered : (parts : PlainTrees) (ts : List PlainTree) (n : ℕ) (more : PlainTrees)
    → gather (count parts + n) (piled parts ts) more ≡ gather n ts (in_front parts more)
gathered no_trees ts n more = ap (λ k. gather k ts more) (let e : 0 + n ≡ n = omega arith in e)
gathered (tree t parts) ts n more =
    ap (λ k. gather k (piled parts (t ∷ ts)) more) (let e : (count parts + 1) + n ≡ count parts + suc n = omega arith in e)
    ∙ gathered parts (t ∷ ts) (suc n) more

taken : (parts : PlainTrees) (ts : List PlainTree) → gather (count parts) (piled parts ts) no_trees ≡ Some (parts, ts)
taken parts ts =
    ap (λ k. gather k (piled parts ts) no_trees) (let e : count parts ≡ count parts + 0 = omega arith in e)
    ∙ gathered parts ts 0 no_trees ∙ ap (λ all. Some (all, ts)) (in_front-none parts)

-- an operator over as many trees as it has operands
put_operator : (o : Operator) (at : ℕ) (args : PlainTrees) (now : PlainPiles) → count args ≡ arity_of o
    → put_on (item.Operator o at) (with_trees args now) ≡ Some (with_tree (form at (head o) args) now)
put_operator o at args now all =
    ap (option_and_then (λ g. Some (piles (form at (head o) g.0 ∷ g.1) now.lists now.names now.places now.blocks)))
    (ap (λ n. gather n (piled args now.trees) no_trees) (sym all) ∙ taken args now.trees)

-- trees and definitions as lists
abbrev tree_list : PlainTrees → List PlainTree
tree_list no_trees = []
tree_list (tree t ts) = t ∷ tree_list ts

tree_list-and : (ts : PlainTrees) (t : PlainTree) → tree_list ts ++ t ∷ [] ≡ tree_list (trees_and ts t)
tree_list-and no_trees t = refl
tree_list-and (tree s ts) t = ap (λ l. s ∷ l) (tree_list-and ts t)

trees_of-list : (ts : PlainTrees) → trees_of (tree_list ts) ≡ ts
trees_of-list no_trees = refl
trees_of-list (tree t ts) = ap (tree t) (trees_of-list ts)

abbrev def_list : PlainDefs → List Def
def_list no_defs = []
def_list (defines at n e ds) = definition at n (def_kind.Plain e) ∷ def_list ds
def_list (defines_function at n ns ats e ds) = definition at n (def_kind.Function ns ats e) ∷ def_list ds
def_list (defines_current at n e ds) = definition at n (def_kind.Current e) ∷ def_list ds

abbrev def_kind_of : Defined → PlainTree → DefKind
def_kind_of Plain e = def_kind.Plain e
def_kind_of (Function ps) e = def_kind.Function (names_of ps) (places_of ps) e
def_kind_of Current e = def_kind.Current e

def_list-and : (ds : PlainDefs) (at : ℕ) (n : List ℕ) (h : Defined) (t : PlainTree)
    → def_list ds ++ definition at n (def_kind_of h t) ∷ [] ≡ def_list (defs_and ds at n h t)
def_list-and no_defs at n Plain t = refl
def_list-and no_defs at n (Function ps) t = refl
def_list-and no_defs at n Current t = refl
def_list-and (defines a m s ds) at n h t = ap (λ l. definition a m (def_kind.Plain s) ∷ l) (def_list-and ds at n h t)
def_list-and (defines_function a m ns ats s ds) at n h t = ap (λ l. definition a m (def_kind.Function ns ats s) ∷ l) (def_list-and ds at n h t)
def_list-and (defines_current a m s ds) at n h t = ap (λ l. definition a m (def_kind.Current s) ∷ l) (def_list-and ds at n h t)

defs_of-list : (ds : PlainDefs) → defs_of (def_list ds) ≡ ds
defs_of-list no_defs = refl
defs_of-list (defines at n e ds) = ap (defines at n e) (defs_of-list ds)
defs_of-list (defines_function at n ns ats e ds) = ap (defines_function at n ns ats e) (defs_of-list ds)
defs_of-list (defines_current at n e ds) = ap (defines_current at n e) (defs_of-list ds)

built-parameters : (ps : List Parameter) (out : List PlainItem) (from now : PlainPiles) (ns : List (List ℕ)) (ats : List ℕ)
    → built out from ≡ Some (with_names ns ats now) → built (with_parameters out ps) from ≡ Some (with_names (ns ++ names_of ps) (ats ++ places_of ps) now)
built-parameters [] out from now ns ats e = e ∙ ap (λ l. Some (with_names l ats now)) (sym (append-nil ns))
    ∙ ap (λ l. Some (with_names (ns ++ []) l now)) (sym (append-nil ats))
built-parameters (x ∷ ps) out from now ns ats e =
    built-parameters ps (out ++ item.Param x.at x.name ∷ []) from now (ns ++ x.name ∷ []) (ats ++ x.at ∷ []) (grow out (item.Param x.at x.name) from _ _ e refl)
    ∙ ap (λ l. Some (with_names l ((ats ++ x.at ∷ []) ++ places_of ps) now)) (append_assoc ns (x.name ∷ []) (names_of ps))
    ∙ ap (λ l. Some (with_names (ns ++ x.name ∷ names_of ps) l now)) (append_assoc ats (x.at ∷ []) (places_of ps))

mutual
  unfolding written

  pub built-written : {allowed : ℕ} {ws : List PlacedTerminal} {t : PlainTree} → Spells allowed ws t → (out : List PlainItem) (from now : PlainPiles)
      → built out from ≡ Some now → built (written out t) from ≡ Some (with_tree t now)
  built-written (Grammar.spells_const {at = at} {v = v}) out from now e = grow out (item.Const at v) from now _ e refl
  built-written (Grammar.spells_name {at = at} {n = n}) out from now e = grow out (item.Name at n) from now _ e refl
  built-written (Grammar.spells_infix {at = at} {x = x} {y = y} terminal operator is low sx sy) out from now e =
      grow_as (written (written out x) y) _ (item.Operator operator at) from (with_tree y (with_tree x now)) _ (node-operator operator at)
      (built-written sy (written out x) from (with_tree x now) (built-written sx out from now e))
      (put_operator operator at (tree x (tree y no_trees)) now (sym (infix_arity terminal operator is)))
  built-written (Grammar.spells_prefix {at = at} {x = x} terminal operator is low sx) out from now e =
      grow_as (written out x) _ (item.Operator operator at) from (with_tree x now) _ (node-operator operator at) (built-written sx out from now e)
      (put_operator operator at (tree x no_trees) now (sym (prefix_arity terminal operator is)))
  built-written (Grammar.spells_inner close_at sx) out from now e = built-written sx out from now e
  built-written (Grammar.spells_if {at = at} then_at else_at fi_at {x = x} {y = y} {z = z} sx sy sz) out from now e =
      grow (written (written (written out x) y) z) (item.Operator (Stream forms.If) at) from (with_tree z (with_tree y (with_tree x now))) _
      (built-written sz (written (written out x) y) from (with_tree y (with_tree x now))
      (built-written sy (written out x) from (with_tree x now) (built-written sx out from now e))) refl
  built-written (Grammar.spells_call {at = at} close_at {n = n} {args = args} sa) out from now e =
      grow (written_all (out ++ item.NoTrees ∷ []) args) (item.Call at n) from (with_list (tree_list args) now) _
      (built-args sa (out ++ item.NoTrees ∷ []) from now (grow out item.NoTrees from now _ e refl))
      (ap (λ a. Some (with_tree (call at n a) now)) (trees_of-list args))
  built-written (Grammar.spells_called {at = at} close_at terminal operator {args = args} is all sa) out from now e =
      grow_as (written_parts out args) _ (item.Operator operator at) from (with_trees args now) _ (node-operator operator at)
      (built-parts sa out from now e) (put_operator operator at args now all)
  built-written (Grammar.spells_block {at = at} end_at {x = x} {all = all} low sx sd) out from now e =
      grow (written_defs (written out x ++ item.NoDefs ∷ []) all) (item.Block at) from (with_block (def_list all) (with_tree x now)) _
      (built-defs sd (written out x ++ item.NoDefs ∷ []) from (with_tree x now)
      (grow (written out x) item.NoDefs from (with_tree x now) _ (built-written sx out from now e) refl))
      (ap (λ a. Some (with_tree (block at x a) now)) (defs_of-list all))

  built-parts : {ws : List PlacedTerminal} {args : PlainTrees} → SpellsArgs ws args → (out : List PlainItem) (from now : PlainPiles)
      → built out from ≡ Some now → built (written_parts out args) from ≡ Some (with_trees args now)
  built-parts (Grammar.spells_one sx) out from now e = built-written sx out from now e
  built-parts (Grammar.spells_more comma_at {all = all} {y = y} sa sy) out from now e =
      ap (λ o. built o from) (written_parts-and out all y)
      ∙ built-written sy (written_parts out all) from (with_trees all now) (built-parts sa out from now e)
      ∙ ap (λ l. Some (piles l now.lists now.names now.places now.blocks)) (sym (piled-and all y now.trees))

  built-args : {ws : List PlacedTerminal} {args : PlainTrees} → SpellsArgs ws args → (out : List PlainItem) (from now : PlainPiles)
      → built out from ≡ Some (with_list [] now) → built (written_all out args) from ≡ Some (with_list (tree_list args) now)
  built-args (Grammar.spells_one {x = x} sx) out from now e =
      grow (written out x) item.More from (with_tree x (with_list [] now)) _ (built-written sx out from (with_list [] now) e) refl
  built-args (Grammar.spells_more comma_at {all = all} {y = y} sa sy) out from now e =
      ap (λ o. built o from) (written_all-and out all y)
      ∙ grow (written (written_all out all) y) item.More from (with_tree y (with_list (tree_list all) now)) _
      (built-written sy (written_all out all) from (with_list (tree_list all) now) (built-args sa out from now e)) refl
      ∙ ap (λ l. Some (with_list l now)) (tree_list-and all y)

  built-defs : {ws : List PlacedTerminal} {all : PlainDefs} → SpellsDefs ws all → (out : List PlainItem) (from now : PlainPiles)
      → built out from ≡ Some (with_block [] now) → built (written_defs out all) from ≡ Some (with_block (def_list all) now)
  built-defs Grammar.spells_none out from now e = e
  built-defs (Grammar.spells_def at n equals_at semicolon_at {all = all} {y = y} sd sy) out from now e =
      ap (λ o. built o from) (written_defs-and out all at n Plain y)
      ∙ grow (written (written_defs out all) y) (item.Def kind.Plain at n) from (with_tree y (with_block (def_list all) now)) _
      (built-written sy (written_defs out all) from (with_block (def_list all) now) (built-defs sd out from now e)) refl
      ∙ ap (λ l. Some (with_block l now)) (def_list-and all at n Plain y)
  built-defs (Grammar.spells_current at n is_at current_at semicolon_at {all = all} {y = y} sd sy) out from now e =
      ap (λ o. built o from) (written_defs-and out all at n Current y)
      ∙ grow (written (written_defs out all) y) (item.Def kind.Current at n) from (with_tree y (with_block (def_list all) now)) _
      (built-written sy (written_defs out all) from (with_block (def_list all) now) (built-defs sd out from now e)) refl
      ∙ ap (λ l. Some (with_block l now)) (def_list-and all at n Current y)
  built-defs (Grammar.spells_function at n open_at close_at equals_at semicolon_at {all = all} {parameters = ps} {y = y} sd sn sy) out from now e =
      let named = with_parameters (written_defs out all ++ item.NoNames ∷ []) ps in
      ap (λ o. built o from) (written_defs-and out all at n (Function ps) y)
      ∙ grow (written named y) (item.Def kind.Function at n) from (with_tree y (with_names (names_of ps) (places_of ps) (with_block (def_list all) now))) _
      (built-written sy named from (with_names (names_of ps) (places_of ps) (with_block (def_list all) now))
      (built-parameters ps (written_defs out all ++ item.NoNames ∷ []) from (with_block (def_list all) now) [] []
      (grow (written_defs out all) item.NoNames from (with_block (def_list all) now) _ (built-defs sd out from now e) refl))) refl
      ∙ ap (λ l. Some (with_block l now)) (def_list-and all at n (Function ps) y)

-- the nodes of a tree that is spelled build it
pub rebuilt : {allowed : ℕ} {ws : List PlacedTerminal} {t : PlainTree} → Spells allowed ws t → built (written [] t) no_piles ≡ Some (piles (t ∷ []) [] [] [] [])
rebuilt s = built-written s [] no_piles no_piles refl

abbrev first_trees : Option PlainPiles → List PlainTree
first_trees None = []
first_trees (Some held) = held.trees

-- two trees with the same nodes are one
pub written-one : {outer allowed : ℕ} {us ws : List PlacedTerminal} {x y : PlainTree} → Spells outer us x → Spells allowed ws y → written [] x ≡ written [] y
    → x ≡ y
written-one {x = x} {y = y} s t e =
    let same : ◌≡◌ {A = Option PlainPiles} (Some (piles (x ∷ []) [] [] [] [])) (Some (piles (y ∷ []) [] [] [] [])) = sym (rebuilt s)
    ∙ ap (λ l. built l no_piles) e ∙ rebuilt t in
    let lists : ◌≡◌ {A = List PlainTree} (x ∷ []) (y ∷ []) = ap first_trees same in cc

-- terminals spell at most one tree
pub one_tree : (ws : List PlacedTerminal) (x y : PlainTree) → Spells 0 ws x → Spells 0 ws y → x ≡ y
one_tree ws x y s t =
    let same : ◌≡◌ {A = Option (List PlainItem)} (Some (written [] x)) (Some (written [] y)) = sym (spelled_nodes ws x s) ∙ spelled_nodes ws y t in
    written-one s t (cc)

-- a node more
pub built-more : (items : List PlainItem) (i : ℕ) (d : PlainItem) (from now : PlainPiles) (o : Option PlainPiles) → i < length items
    → built (take i items) from ≡ Some now → put_on (get_or items i d) now ≡ o
    → built (take (i + 1) items) from ≡ o
built-more items i d from now o h e f =
    ap (λ l. built l from) (take_more items i d h) ∙ built-push (take i items) (get_or items i d) from ∙ ap (option_and_then (put_on (get_or items i d))) e ∙ f

built-front : (xs ys : List PlainItem) (from after : PlainPiles) → built (xs ++ ys) from ≡ Some after → built xs from ≡ None → ⊥
built-front [] ys from after e f = cc
built-front (x ∷ xs) ys from after e f = of (put_on x from) e f (λ now g h. built-front xs ys now after g h)
  where
    of : (o : Option PlainPiles) → option_and_then (built (xs ++ ys)) o ≡ Some after → option_and_then (built xs) o ≡ None
        → ((now : PlainPiles) → built (xs ++ ys) now ≡ Some after → built xs now ≡ None → ⊥) → ⊥
    of None g h k = cc
    of (Some now) g h k = k now g h

-- no node of a tree that is spelled lacks its parts
pub never_lacks : {ws : List PlacedTerminal} {t : PlainTree} → Spells 0 ws t → (items : List PlainItem) (n : ℕ) → items ≡ written [] t
    → built (take n items) no_piles ≡ None → ⊥
never_lacks {t = t} s items n e f =
    built-front (take n items) (drop n items) no_piles (piles (t ∷ []) [] [] [] [])
    (ap (λ l. built l no_piles) (take-append-drop n items ∙ e) ∙ rebuilt s) f

-- in the end there is the tree
pub all_built : {ws : List PlacedTerminal} {t : PlainTree} → Spells 0 ws t → (items : List PlainItem) (n : ℕ) (from : PlainPiles) → items ≡ written [] t
    → length items ≤ n → built (take n items) no_piles ≡ Some from → from.trees ≡ t ∷ []
all_built {t = t} s items n from e h f =
    let same : Some from ≡ Some (piles (t ∷ []) [] [] [] []) = sym f ∙ ap (λ l. built l no_piles) (take_all n items h ∙ e) ∙ rebuilt s in
    let one : from ≡ piles (t ∷ []) [] [] [] [] = cc in
    ap (λ now. now.trees) one
