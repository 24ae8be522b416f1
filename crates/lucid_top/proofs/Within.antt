-- The places of a tree that a source spells lie within the source.
use Rattle.lucid_top.proofs.Common.{ℕ, ◌+◌, ◌<◌, ◌≤◌, List, [], ◌∷◌, ◌++◌, length, arith, PlainTree, PlainDefs, no_defs, defines, places, places_in_defs, Token, most_source_bytes, PlacedTerminal, Spells, SpellsDefs, Terminals, Spelt, All, length-drop, All-nil, All-cons}
use Rattle.lucid_tree.specs.Tree.{PlainTrees, no_trees, tree, defines_function, defines_current}
use Rattle.lucid_tree.specs.WellMade.{places_in}
use Rattle.lucid_scan.specs.Tokens as scan
use Rattle.lucid_parse.specs.Grammar as grammar
use Rattle.lucid_parse.specs.Grammar.{trees_and, def_before, defs_and, Defined, Plain, Function, Current, Parameter, parameter, places_of, SpellsArgs, SpellsNames}
use Rattle.lucid_parse.specs.Terminals as terminals

module _ (n : ℕ) where
  -- each of the numbers is lower; and each place of the terminals
  abbrev Lower : List ℕ → Type 0
  Lower [] = Unit {0}
  Lower (x ∷ xs) = (x < n) × Lower xs

  abbrev LowerAt : List PlacedTerminal → Type 0
  LowerAt [] = Unit {0}
  LowerAt (w ∷ ws) = (w.at < n) × LowerAt ws

  both : (xs ys : List ℕ) → Lower xs → Lower ys → Lower (xs ++ ys)
  both [] ys a b = b
  both (x ∷ xs) ys a b = (a.0, both xs ys a.1 b)

  front : (xs ys : List PlacedTerminal) → LowerAt (xs ++ ys) → LowerAt xs
  front [] ys a = tt
  front (x ∷ xs) ys a = (a.0, front xs ys a.1)

  back : (xs ys : List PlacedTerminal) → LowerAt (xs ++ ys) → LowerAt ys
  back [] ys a = a
  back (x ∷ xs) ys a = back xs ys a.1

  of_all : (xs : List ℕ) → Lower xs → All (λ at. at < n) xs
  of_all [] a = All-nil (λ at. at < n)
  of_all (x ∷ xs) a = All-cons (λ at. at < n) x xs a.0 (of_all xs a.1)

  -- behind the same numbers
  beyond : (ps xs ys : List ℕ) → (Lower xs → Lower ys) → Lower (ps ++ xs) → Lower (ps ++ ys)
  beyond [] xs ys f a = f a
  beyond (p ∷ ps) xs ys f a = (a.0, beyond ps xs ys f a.1)

  one_more : (ts : PlainTrees) (t : PlainTree) → Lower (places_in ts) → Lower (places t) → Lower (places_in (trees_and ts t))
  one_more no_trees t a b = both (places t) [] b tt
  one_more (tree s ts) t a b = beyond (places s) (places_in ts) (places_in (trees_and ts t)) (λ c. one_more ts t c b) a

  -- the places of a definition's parameters
  abbrev own_places : Defined → List ℕ
  own_places Plain = []
  own_places (Function ps) = places_of ps
  own_places Current = []

  def_lower : (at : ℕ) (x : List ℕ) (h : Defined) (t : PlainTree) → at < n → Lower (own_places h) → Lower (places t)
      → Lower (places_in_defs (def_before at x h t no_defs))
  def_lower at x Plain t lt own b = (lt, both (places t) [] b tt)
  def_lower at x (Function ps) t lt own b = (lt, both (places_of ps ++ places t) [] (both (places_of ps) (places t) own b) tt)
  def_lower at x Current t lt own b = (lt, both (places t) [] b tt)

  def_more : (ds : PlainDefs) (at : ℕ) (x : List ℕ) (h : Defined) (t : PlainTree) → Lower (places_in_defs ds) → at < n → Lower (own_places h) → Lower (places t)
      → Lower (places_in_defs (defs_and ds at x h t))
  def_more no_defs at x h t a lt own b = def_lower at x h t lt own b
  def_more (defines d m s ds) at x h t a lt own b =
      (a.0, beyond (places s) (places_in_defs ds) (places_in_defs (defs_and ds at x h t)) (λ c. def_more ds at x h t c lt own b) a.1)
  def_more (defines_function d m ns ats s ds) at x h t a lt own b =
      (a.0, beyond (ats ++ places s) (places_in_defs ds) (places_in_defs (defs_and ds at x h t)) (λ c. def_more ds at x h t c lt own b) a.1)
  def_more (defines_current d m s ds) at x h t a lt own b =
      (a.0, beyond (places s) (places_in_defs ds) (places_in_defs (defs_and ds at x h t)) (λ c. def_more ds at x h t c lt own b) a.1)

  parameter_more : (ps : List Parameter) (at : ℕ) (x : List ℕ) → Lower (places_of ps) → at < n → Lower (places_of (ps ++ parameter at x ∷ []))
  parameter_more [] at x a lt = (lt, tt)
  parameter_more (p ∷ ps) at x a lt = (a.0, parameter_more ps at x a.1 lt)

  names_lower : {ws : List PlacedTerminal} {ps : List Parameter} → SpellsNames ws ps → LowerAt ws → Lower (places_of ps)
  names_lower grammar.spells_first_name a = (a.0, tt)
  names_lower (grammar.spells_more_names comma_at at x {xs = xs} {all = all} sn) a =
      let r = back xs _ a in parameter_more all at x (names_lower sn (front xs _ a)) r.1.0

  mutual
    -- where the terminals stand lower, the places of what they spell do
    lower : {level : ℕ} {ws : List PlacedTerminal} {t : PlainTree} → Spells level ws t → LowerAt ws → Lower (places t)
    lower grammar.spells_const a = (a.0, tt)
    lower grammar.spells_name a = (a.0, tt)
    lower (grammar.spells_infix {xs = xs} {x = x} {y = y} terminal operator is low sx sy) a =
        let r = back xs _ a in (r.0, both (places x) (places y ++ []) (lower sx (front xs _ a)) (both (places y) [] (lower sy r.1) tt))
    lower (grammar.spells_prefix {x = x} terminal operator is low sx) a = (a.0, both (places x) [] (lower sx a.1) tt)
    lower (grammar.spells_inner close_at {xs = xs} sx) a = lower sx (front xs _ a.1)
    lower (grammar.spells_if then_at else_at fi_at {xs = xs} {ys = ys} {zs = zs} {x = x} {y = y} {z = z} sx sy sz) a =
        let r = back xs _ a.1 in
        let q = back ys _ r.1 in (
          a.0,
          both (places x) (places y ++ (places z ++ [])) (lower sx (front xs _ a.1))
              (both (places y) (places z ++ []) (lower sy (front ys _ r.1)) (both (places z) [] (lower sz (front zs _ q.1)) tt)),
        )
    lower (grammar.spells_call close_at {xs = xs} sa) a = (a.0, args_lower sa (front xs _ a.1.1))
    lower (grammar.spells_called close_at word operator {xs = xs} is all sa) a = (a.0, args_lower sa (front xs _ a.1.1))
    lower (grammar.spells_block end_at {xs = xs} {ds = ds} {x = x} {all = all} low sx sd) a =
        let r = back xs _ a in (r.0, both (places x) (places_in_defs all) (lower sx (front xs _ a)) (defs_lower sd (front ds _ r.1)))

    args_lower : {ws : List PlacedTerminal} {args : PlainTrees} → SpellsArgs ws args → LowerAt ws → Lower (places_in args)
    args_lower (grammar.spells_one {x = x} sx) a = both (places x) [] (lower sx a) tt
    args_lower (grammar.spells_more comma_at {xs = xs} {all = all} {y = y} sa sy) a = let r = back xs _ a in
        one_more all y (args_lower sa (front xs _ a)) (lower sy r.1)

    defs_lower : {ws : List PlacedTerminal} {all : PlainDefs} → SpellsDefs ws all → LowerAt ws → Lower (places_in_defs all)
    defs_lower grammar.spells_none a = tt
    defs_lower (grammar.spells_def at x equals_at semicolon_at {ds = ds} {ys = ys} {all = all} {y = y} sd sy) a =
        let r = back ds _ a in def_more all at x Plain y (defs_lower sd (front ds _ a)) r.0 tt (lower sy (front ys _ r.1.1))
    defs_lower (grammar.spells_function at x open_at close_at equals_at semicolon_at {ds = ds} {ns = ns} {ys = ys} {all = all} {parameters = ps} {y = y} sd sn
        sy) a =
        let r = back ds _ a in
        let q = back ns _ r.1.1 in
        def_more all at x (Function ps) y (defs_lower sd (front ds _ a)) r.0 (names_lower sn (front ns _ r.1.1)) (lower sy (front ys _ q.1.1))
    defs_lower (grammar.spells_current at x is_at current_at semicolon_at {ds = ds} {ys = ys} {all = all} {y = y} sd sy) a =
        let r = back ds _ a in def_more all at x Current y (defs_lower sd (front ds _ a)) r.0 tt (lower sy (front ys _ r.1.1.1))

  -- the terminals of bytes stand before their end
  stand_before : {source bytes : List ℕ} {at : ℕ} {ts : List Token} {ws : List PlacedTerminal} → scan.Tokens bytes at ts → Terminals source ts ws
      → at + length bytes ≤ n → LowerAt ws
  stand_before (scan.tokens_end none) terminals.terminals_none le = tt
  stand_before (scan.tokens_next {bytes = bytes} k q longest more) (terminals.terminals_next t s is others) le =
      let behind = length-drop (scan.gap bytes) bytes in
      let last = length-drop q (scan.past_gap bytes) in
      (omega (arith, le, behind, longest.stands.within, longest.stands.some), stand_before more others (omega (arith, le, behind, last, longest.stands.within)))

pub places_within : (source : List ℕ) (p : PlainTree) → Spelt source p → All (λ at. at < most_source_bytes) (places p)
places_within source p s =
    of_all most_source_bytes (places p)
    (lower most_source_bytes s.spelt.2 (stand_before most_source_bytes s.scanned.listed s.spelt.1 (omega (arith, s.scanned.short))))
