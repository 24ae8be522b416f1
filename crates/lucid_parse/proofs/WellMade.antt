-- Trees that are spelled are well made: their operators and functions are shaped, and their places are places of terminals, each once.
use Rattle.lucid_parse.proofs.Common.{◌≡◌, ℕ, suc, ◌+◌, ◌≤◌, ◌<◌, List, [], ◌∷◌, ◌++◌, length, Bool, true, false, cond, inl, inr, refl, sym, ◌∙◌, ap, arith, length-append, nat_eq, eq-eqb, eqb-true, and_from, and_parts, PlainTree, PlainTrees, no_trees, tree, PlainDefs, no_defs, defines, defines_function, defines_current, count, places, IsWellMade, Data, Operator, PlacedTerminal, trees_and, def_before, defs_and, Defined, Plain, Function, Current, Parameter, names_of, places_of, arity_of, head, Spells, SpellsArgs, SpellsDefs, SpellsNames, lt-ltb}
use Rattle.lucid_tree.specs.WellMade.{places_in, places_in_defs, fits_arity, is_shaped, are_shaped, defs_are_shaped, In, AllDiffer}
use Rattle.lucid_ops.specs.Arity.{arity}
use Rattle.lucid_parse.specs.declared.operator.Operator.TheVariants.{Stream}
use Rattle.lucid_parse.proofs.Levels.{infix_arity, prefix_arity}
use Rattle.lucid_parse.specs.Grammar

-- The shape.

fits-operator : (operator : Operator) (args : PlainTrees) → count args ≡ arity_of operator → fits_arity (head operator) args ≡ true
fits-operator (Data op) args e = eq-eqb (count args) (arity op) e
fits-operator (Stream f) args e = refl

are_shaped-and : (ts : PlainTrees) (t : PlainTree) → are_shaped ts ≡ true → is_shaped t ≡ true → are_shaped (trees_and ts t) ≡ true
are_shaped-and no_trees t h s = and_from _ _ s refl
are_shaped-and (tree e ts) t h s = and_from _ _ (and_parts _ _ h).0 (are_shaped-and ts t (and_parts _ _ h).1 s)

-- a function has a parameter
abbrev HasParameter : Defined → Type 0
HasParameter Plain = Unit {0}
HasParameter (Function ps) = 0 < length (names_of ps)
HasParameter Current = Unit {0}

length-places_of : (ps : List Parameter) → length (places_of ps) ≡ length (names_of ps)
length-places_of [] = refl
length-places_of (p ∷ ps) = ap suc (length-places_of ps)

def_is_shaped : (at : ℕ) (n : List ℕ) (h : Defined) (t : PlainTree) → HasParameter h → is_shaped t ≡ true → defs_are_shaped (def_before at n h t no_defs) ≡ true
def_is_shaped at n Plain t k s = and_from _ _ s refl
def_is_shaped at n (Function ps) t k s =
    and_from _ _ (and_from _ _ (and_from _ _ (lt-ltb 0 (length (names_of ps)) k) (eq-eqb (length (places_of ps)) (length (names_of ps)) (length-places_of ps)))
    s) refl
def_is_shaped at n Current t k s = and_from _ _ s refl

defs_are_shaped-and : (ds : PlainDefs) (at : ℕ) (n : List ℕ) (h : Defined) (t : PlainTree) → HasParameter h → defs_are_shaped ds ≡ true → is_shaped t ≡ true
    → defs_are_shaped (defs_and ds at n h t) ≡ true
defs_are_shaped-and no_defs at n h t k d s = def_is_shaped at n h t k s
defs_are_shaped-and (defines a m e ds) at n h t k d s = and_from _ _ (and_parts _ _ d).0 (defs_are_shaped-and ds at n h t k (and_parts _ _ d).1 s)
defs_are_shaped-and (defines_function a m ns ats e ds) at n h t k d s =
    and_from _ _ (and_parts _ _ d).0 (defs_are_shaped-and ds at n h t k (and_parts _ _ d).1 s)
defs_are_shaped-and (defines_current a m e ds) at n h t k d s = and_from _ _ (and_parts _ _ d).0 (defs_are_shaped-and ds at n h t k (and_parts _ _ d).1 s)

names_of-and : (ps qs : List Parameter) → length (names_of (ps ++ qs)) ≡ length (names_of ps) + length (names_of qs)
names_of-and [] qs = omega arith
names_of-and (p ∷ ps) qs = omega (arith, names_of-and ps qs)

some_names : {xs : List PlacedTerminal} {ps : List Parameter} → SpellsNames xs ps → 0 < length (names_of ps)
some_names Grammar.spells_first_name = omega arith
some_names (Grammar.spells_more_names comma_at at n {all = all} sn) = omega (arith, some_names sn, names_of-and all (record { at = at; name = n } ∷ []))

mutual
  pub shaped : {level : ℕ} {ws : List PlacedTerminal} {t : PlainTree} → Spells level ws t → is_shaped t ≡ true
  shaped Grammar.spells_const = refl
  shaped Grammar.spells_name = refl
  shaped (Grammar.spells_infix {x = x} {y = y} terminal operator is low sx sy) =
      and_from _ _ (fits-operator operator (tree x (tree y no_trees)) (sym (infix_arity terminal operator is)))
      (and_from _ _ (shaped sx) (and_from _ _ (shaped sy) refl))
  shaped (Grammar.spells_prefix {x = x} terminal operator is low sx) =
      and_from _ _ (fits-operator operator (tree x no_trees) (sym (prefix_arity terminal operator is))) (and_from _ _ (shaped sx) refl)
  shaped (Grammar.spells_inner close_at sx) = shaped sx
  shaped (Grammar.spells_if then_at else_at fi_at sx sy sz) = and_from _ _ (shaped sx) (and_from _ _ (shaped sy) (and_from _ _ (shaped sz) refl))
  shaped (Grammar.spells_call close_at sa) = shaped_args sa
  shaped (Grammar.spells_called close_at terminal operator {args = args} is all sa) = and_from _ _ (fits-operator operator args all) (shaped_args sa)
  shaped (Grammar.spells_block end_at low sx sd) = and_from _ _ (shaped sx) (shaped_defs sd)

  shaped_args : {ws : List PlacedTerminal} {args : PlainTrees} → SpellsArgs ws args → are_shaped args ≡ true
  shaped_args (Grammar.spells_one sx) = and_from _ _ (shaped sx) refl
  shaped_args (Grammar.spells_more comma_at {all = all} {y = y} sa sy) = are_shaped-and all y (shaped_args sa) (shaped sy)

  shaped_defs : {ws : List PlacedTerminal} {all : PlainDefs} → SpellsDefs ws all → defs_are_shaped all ≡ true
  shaped_defs Grammar.spells_none = refl
  shaped_defs (Grammar.spells_def at n equals_at semicolon_at {all = all} {y = y} sd sy) = defs_are_shaped-and all at n Plain y tt (shaped_defs sd) (shaped sy)
  shaped_defs (Grammar.spells_function at n open_at close_at equals_at semicolon_at {all = all} {parameters = ps} {y = y} sd sn sy) =
      defs_are_shaped-and all at n (Function ps) y (some_names sn) (shaped_defs sd) (shaped sy)
  shaped_defs (Grammar.spells_current at n is_at current_at semicolon_at {all = all} {y = y} sd sy) =
      defs_are_shaped-and all at n Current y tt (shaped_defs sd) (shaped sy)

-- The places. How often a number stands in a list, and a place among terminals.

one : ℕ → ℕ → ℕ
one place x = cond (nat_eq place x) 1 0

pub occurs : ℕ → List ℕ → ℕ
occurs place [] = 0
occurs place (x ∷ xs) = one place x + occurs place xs

pub occurs_at : ℕ → List PlacedTerminal → ℕ
occurs_at place [] = 0
occurs_at place (w ∷ ws) = one place w.at + occurs_at place ws

occurs-append : (place : ℕ) (xs ys : List ℕ) → occurs place (xs ++ ys) ≡ occurs place xs + occurs place ys
unfolding occurs
occurs-append place [] ys = omega arith
occurs-append place (x ∷ xs) ys = omega (arith, occurs-append place xs ys)

occurs_at-append : (place : ℕ) (xs ys : List PlacedTerminal) → occurs_at place (xs ++ ys) ≡ occurs_at place xs + occurs_at place ys
unfolding occurs_at
occurs_at-append place [] ys = omega arith
occurs_at-append place (x ∷ xs) ys = omega (arith, occurs_at-append place xs ys)

-- the places of a definition's parameters
abbrev own_places : Defined → List ℕ
own_places Plain = []
own_places (Function ps) = places_of ps
own_places Current = []

occurs-trees_and : (place : ℕ) (ts : PlainTrees) (t : PlainTree)
    → occurs place (places_in (trees_and ts t)) ≡ occurs place (places_in ts) + occurs place (places t)
unfolding occurs
occurs-trees_and place no_trees t = simp occurs-append (omega arith)
occurs-trees_and place (tree s ts) t = simp occurs-append (omega (arith, occurs-trees_and place ts t))

occurs-def : (place at : ℕ) (n : List ℕ) (h : Defined) (t : PlainTree)
    → occurs place (places_in_defs (def_before at n h t no_defs)) ≡ one place at + (occurs place (own_places h) + occurs place (places t))
unfolding occurs
occurs-def place at n Plain t = simp occurs-append (omega arith)
occurs-def place at n (Function ps) t = simp occurs-append (omega arith)
occurs-def place at n Current t = simp occurs-append (omega arith)

occurs-defs_and : (place : ℕ) (ds : PlainDefs) (at : ℕ) (n : List ℕ) (h : Defined) (t : PlainTree)
    → occurs place (places_in_defs (defs_and ds at n h t)) ≡ occurs place
    (places_in_defs ds) + (one place at + (occurs place (own_places h) + occurs place (places t)))
unfolding occurs
occurs-defs_and place no_defs at n h t = omega (arith, occurs-def place at n h t)
occurs-defs_and place (defines a m s ds) at n h t = simp occurs-append (omega (arith, occurs-defs_and place ds at n h t))
occurs-defs_and place (defines_function a m ns ats s ds) at n h t = simp occurs-append (omega (arith, occurs-defs_and place ds at n h t))
occurs-defs_and place (defines_current a m s ds) at n h t = simp occurs-append (omega (arith, occurs-defs_and place ds at n h t))

occurs-places_of : (place : ℕ) (ps : List Parameter) (at : ℕ) (n : List ℕ)
    → occurs place (places_of (ps ++ record { at = at; name = n } ∷ [])) ≡ occurs place (places_of ps) + one place at
unfolding occurs
occurs-places_of place [] at n = omega arith
occurs-places_of place (q ∷ ps) at n = omega (arith, occurs-places_of place ps at n)

placed_names : {ws : List PlacedTerminal} {ps : List Parameter} → SpellsNames ws ps → (place : ℕ) → occurs place (places_of ps) ≤ occurs_at place ws
unfolding occurs occurs_at
placed_names Grammar.spells_first_name place = omega arith
placed_names (Grammar.spells_more_names comma_at at n {xs = xs} {all = all} sn) place =
    simp (occurs_at-append, occurs-places_of) (omega (arith, placed_names sn place))

mutual
  unfolding occurs occurs_at

  -- no place stands more often in the tree than among the terminals
  pub placed : {allowed : ℕ} {ws : List PlacedTerminal} {t : PlainTree} → Spells allowed ws t → (place : ℕ) → occurs place (places t) ≤ occurs_at place ws
  placed Grammar.spells_const place = omega arith
  placed Grammar.spells_name place = omega arith
  placed (Grammar.spells_infix terminal operator is low sx sy) place = simp (occurs-append, occurs_at-append) (omega (arith, placed sx place, placed sy place))
  placed (Grammar.spells_prefix terminal operator is low sx) place = simp (occurs-append, occurs_at-append) (omega (arith, placed sx place))
  placed (Grammar.spells_inner close_at sx) place = simp (occurs_at-append) (omega (arith, placed sx place))
  placed (Grammar.spells_if then_at else_at fi_at sx sy sz) place =
      simp (occurs-append, occurs_at-append) (omega (arith, placed sx place, placed sy place, placed sz place))
  placed (Grammar.spells_call close_at sa) place = simp (occurs_at-append) (omega (arith, placed_args sa place))
  placed (Grammar.spells_called close_at terminal operator is all sa) place = simp (occurs_at-append) (omega (arith, placed_args sa place))
  placed (Grammar.spells_block end_at low sx sd) place = simp (occurs-append, occurs_at-append) (omega (arith, placed sx place, placed_defs sd place))

  placed_args : {ws : List PlacedTerminal} {args : PlainTrees} → SpellsArgs ws args → (place : ℕ) → occurs place (places_in args) ≤ occurs_at place ws
  placed_args (Grammar.spells_one sx) place = simp (occurs-append) (omega (arith, placed sx place))
  placed_args (Grammar.spells_more comma_at sa sy) place = simp (occurs-trees_and, occurs_at-append) (omega (arith, placed_args sa place, placed sy place))

  placed_defs : {ws : List PlacedTerminal} {all : PlainDefs} → SpellsDefs ws all → (place : ℕ) → occurs place (places_in_defs all) ≤ occurs_at place ws
  placed_defs Grammar.spells_none place = omega arith
  placed_defs (Grammar.spells_def at n equals_at semicolon_at sd sy) place =
      simp (occurs-defs_and, occurs_at-append) (omega (arith, placed_defs sd place, placed sy place))
  placed_defs (Grammar.spells_function at n open_at close_at equals_at semicolon_at sd sn sy) place =
      simp (occurs-defs_and, occurs_at-append) (omega (arith, placed_defs sd place, placed_names sn place, placed sy place))
  placed_defs (Grammar.spells_current at n is_at current_at semicolon_at sd sy) place =
      simp (occurs-defs_and, occurs_at-append) (omega (arith, placed_defs sd place, placed sy place))

-- The number of places.

length-trees_and : (ts : PlainTrees) (t : PlainTree) → length (places_in (trees_and ts t)) ≡ length (places_in ts) + length (places t)
length-trees_and no_trees t = simp length-append (omega arith)
length-trees_and (tree s ts) t = simp length-append (omega (arith, length-trees_and ts t))

length-def : (at : ℕ) (n : List ℕ) (h : Defined) (t : PlainTree)
    → length (places_in_defs (def_before at n h t no_defs)) ≡ 1 + (length (own_places h) + length (places t))
length-def at n Plain t = simp length-append (omega arith)
length-def at n (Function ps) t = simp length-append (omega arith)
length-def at n Current t = simp length-append (omega arith)

length-defs_and : (ds : PlainDefs) (at : ℕ) (n : List ℕ) (h : Defined) (t : PlainTree)
    → length (places_in_defs (defs_and ds at n h t)) ≡ length (places_in_defs ds) + (1 + (length (own_places h) + length (places t)))
length-defs_and no_defs at n h t = omega (arith, length-def at n h t)
length-defs_and (defines a m s ds) at n h t = simp length-append (omega (arith, length-defs_and ds at n h t))
length-defs_and (defines_function a m ns ats s ds) at n h t = simp length-append (omega (arith, length-defs_and ds at n h t))
length-defs_and (defines_current a m s ds) at n h t = simp length-append (omega (arith, length-defs_and ds at n h t))

length-parameters : (ps : List Parameter) (at : ℕ) (n : List ℕ) → length (places_of (ps ++ record { at = at; name = n } ∷ [])) ≡ length (places_of ps) + 1
length-parameters [] at n = omega arith
length-parameters (q ∷ ps) at n = omega (arith, length-parameters ps at n)

few_names : {ws : List PlacedTerminal} {ps : List Parameter} → SpellsNames ws ps → length (places_of ps) ≤ length ws
few_names Grammar.spells_first_name = omega arith
few_names (Grammar.spells_more_names comma_at at n sn) = simp (length-append, length-parameters) (omega (arith, few_names sn))

mutual
  -- a tree has no more places than terminals
  pub few : {level : ℕ} {ws : List PlacedTerminal} {t : PlainTree} → Spells level ws t → length (places t) ≤ length ws
  few Grammar.spells_const = omega arith
  few Grammar.spells_name = omega arith
  few (Grammar.spells_infix terminal operator is low sx sy) = simp length-append (omega (arith, few sx, few sy))
  few (Grammar.spells_prefix terminal operator is low sx) = simp length-append (omega (arith, few sx))
  few (Grammar.spells_inner close_at sx) = simp length-append (omega (arith, few sx))
  few (Grammar.spells_if then_at else_at fi_at sx sy sz) = simp length-append (omega (arith, few sx, few sy, few sz))
  few (Grammar.spells_call close_at sa) = simp length-append (omega (arith, few_args sa))
  few (Grammar.spells_called close_at terminal operator is all sa) = simp length-append (omega (arith, few_args sa))
  few (Grammar.spells_block end_at low sx sd) = simp length-append (omega (arith, few sx, few_defs sd))

  few_args : {ws : List PlacedTerminal} {args : PlainTrees} → SpellsArgs ws args → length (places_in args) ≤ length ws
  few_args (Grammar.spells_one sx) = simp length-append (omega (arith, few sx))
  few_args (Grammar.spells_more comma_at sa sy) = simp (length-append, length-trees_and) (omega (arith, few_args sa, few sy))

  few_defs : {ws : List PlacedTerminal} {all : PlainDefs} → SpellsDefs ws all → length (places_in_defs all) ≤ length ws
  few_defs Grammar.spells_none = omega arith
  few_defs (Grammar.spells_def at n equals_at semicolon_at sd sy) = simp (length-append, length-defs_and) (omega (arith, few_defs sd, few sy))
  few_defs (Grammar.spells_function at n open_at close_at equals_at semicolon_at sd sn sy) =
      simp (length-append, length-defs_and) (omega (arith, few_defs sd, few_names sn, few sy))
  few_defs (Grammar.spells_current at n is_at current_at semicolon_at sd sy) = simp (length-append, length-defs_and) (omega (arith, few_defs sd, few sy))

-- Terminals whose places rise.

pub Rises : ℕ → List PlacedTerminal → Type 0
Rises low [] = Unit {0}
Rises low (w ∷ ws) = (low ≤ w.at) × Rises (w.at + 1) ws

pub lower : (ws : List PlacedTerminal) (low least : ℕ) → least ≤ low → Rises low ws → Rises least ws
unfolding Rises
lower [] low least h r = tt
lower (w ∷ ws) low least h r = (omega (arith, h, r.0), r.1)

pub rises_next : (w : PlacedTerminal) (ws : List PlacedTerminal) (low : ℕ) → low ≤ w.at → Rises (w.at + 1) ws → Rises low (w ∷ ws)
unfolding Rises
rises_next w ws low h r = (h, r)

pub rises_none : (low : ℕ) → Rises low []
unfolding Rises
rises_none low = tt

one-less : (place x : ℕ) → place < x → one place x ≡ 0
unfolding one
one-less place x h = of (nat_eq place x) refl
  where
    of : (b : Bool) → nat_eq place x ≡ b → ◌≡◌ {A = ℕ} (cond b 1 0) 0
    of true e = let same : place ≡ x = eqb-true place x e in absurd (omega (arith, same, h))
    of false e = refl

one-most : (place x : ℕ) → one place x ≤ 1
unfolding one
one-most place x = of (nat_eq place x)
  where
    of : (b : Bool) → cond b 1 0 ≤ 1
    of true = omega arith
    of false = omega arith

one-same : (x : ℕ) → one x x ≡ 1
unfolding one
one-same x = ap (λ b. cond b 1 0) (eq-eqb x x refl)

not_below : (place : ℕ) (ws : List PlacedTerminal) (low : ℕ) → Rises low ws → place < low → occurs_at place ws ≡ 0
unfolding occurs_at Rises
not_below place [] low r h = refl
not_below place (w ∷ ws) low r h = omega (arith, one-less place w.at (omega (arith, h, r.0)), not_below place ws (w.at + 1) r.1 (omega (arith, h, r.0)))

once : (place : ℕ) (ws : List PlacedTerminal) (low : ℕ) → Rises low ws → occurs_at place ws ≤ 1
unfolding occurs_at Rises one
once place [] low r = omega arith
once place (w ∷ ws) low r = of (nat_eq place w.at) refl (once place ws (w.at + 1) r.1)
  where
    of : (b : Bool) → nat_eq place w.at ≡ b → occurs_at place ws ≤ 1 → one place w.at + occurs_at place ws ≤ 1
    of true e k = let same : place ≡ w.at = eqb-true place w.at e in omega (arith, one-most place w.at, not_below place ws (w.at + 1) r.1 (omega (arith, same)))
    of false e k = let none : one place w.at ≡ 0 = ap (λ b. cond b 1 0) e in omega (arith, none, k)

in_occurs : (x : ℕ) (xs : List ℕ) → In x xs → 1 ≤ occurs x xs
unfolding occurs
in_occurs x [] h = absurd h
in_occurs x (y ∷ ys) (inl e) = let same : one x y ≡ 1 = ap (one x) (sym e) ∙ one-same x in omega (arith, same)
in_occurs x (y ∷ ys) (inr h) = omega (arith, in_occurs x ys h)

all_differ : (xs : List ℕ) → ((place : ℕ) → occurs place xs ≤ 1) → AllDiffer xs
unfolding occurs
all_differ [] h = tt
all_differ (x ∷ xs) h = ((λ i. omega (arith, h x, in_occurs x xs i, one-same x)), all_differ xs (λ place. omega (arith, h place)))

-- what terminals of rising places spell is well made
pub well_made : {ws : List PlacedTerminal} {t : PlainTree} → Spells 0 ws t → Rises 0 ws → length ws ≤ 1048576 → IsWellMade t
well_made {ws} {t} s r h = record {
  shaped = shaped s;
  placed = all_differ (places t) (λ p. omega (arith, placed s p, once p ws 0 r));
  few = omega (arith, few s, h);
}
