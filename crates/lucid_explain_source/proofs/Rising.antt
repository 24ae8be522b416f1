-- The definitions of each block of a tree that is spelled stand in the order of their places.
use Rattle.lucid_explain_source.proofs.Common.{ℕ, suc, ◌≤◌, List, [], ◌∷◌, ◌++◌, arith}
use Rattle.lucid_scan.specs.declared.token.Token.{Token}
use Rattle.lucid_scan.specs.Laws.{IsInOrder}
use Rattle.lucid_tree.specs.Tree.{PlainTree, form, name, call, block, PlainTrees, no_trees, tree, PlainDefs, no_defs, defines, defines_function, defines_current}
use Rattle.lucid_parse.specs.declared.terminal.Terminal.TheVariants as terminal
use Rattle.lucid_parse.specs.Grammar.{PlacedTerminal, terminal_at, Parameter, Plain, Function, Current, defs_and, trees_and, Spells, spells_const, spells_name, spells_infix, spells_prefix, spells_inner, spells_if, spells_call, spells_called, spells_block, SpellsArgs, spells_one, spells_more, SpellsDefs, spells_none, spells_def, spells_function, spells_current}
use Rattle.lucid_parse.specs.Terminals.{Terminals, terminals_none, terminals_next}

-- The definitions of each block stand in order, between these places.
abbrev mutual
  pub Rises : PlainTree → Type 0
  Rises (form at f es) = RiseIn es
  Rises (name at n) = Unit {0}
  Rises (call at n es) = RiseIn es
  Rises (block at e ds) = Rises e × ((low : ℕ) × (high : ℕ) × DefsRise low ds high)

  pub RiseIn : PlainTrees → Type 0
  RiseIn no_trees = Unit {0}
  RiseIn (tree e es) = Rises e × RiseIn es

  pub DefsRise : (low : ℕ) → PlainDefs → (high : ℕ) → Type 0
  DefsRise low no_defs high = low ≤ high
  DefsRise low (defines at x e ds) high = (low ≤ at) × Rises e × DefsRise (suc at) ds high
  DefsRise low (defines_function at x ns ats e ds) high = (low ≤ at) × Rises e × DefsRise (suc at) ds high
  DefsRise low (defines_current at x e ds) high = (low ≤ at) × Rises e × DefsRise (suc at) ds high

-- The terminals stand in order, between these places.
abbrev pub Ordered : (low : ℕ) → List PlacedTerminal → (high : ℕ) → Type 0
Ordered low [] high = low ≤ high
Ordered low (w ∷ ws) high = (low ≤ w.at) × Ordered (suc w.at) ws high

lower : (low other : ℕ) (ws : List PlacedTerminal) (high : ℕ) → low ≤ other → Ordered other ws high → Ordered low ws high
lower low other [] high h o = omega (arith, h, o)
lower low other (w ∷ ws) high h o = (omega (arith, h, o.0), o.1)

-- a place between two lists
parted : (low : ℕ) (xs ys : List PlacedTerminal) (high : ℕ) → Ordered low (xs ++ ys) high → (mid : ℕ) × Ordered low xs mid × Ordered mid ys high
parted low [] ys high o = (low, omega arith, o)
parted low (x ∷ xs) ys high o = let p = parted (suc x.at) xs ys high o.1 in (p.0, (o.0, p.1), p.2)

ended : (low : ℕ) (ws : List PlacedTerminal) (high : ℕ) → Ordered low ws high → low ≤ high
ended low [] high o = o
ended low (w ∷ ws) high o = let r = ended (suc w.at) ws high o.1 in omega (arith, o.0, r)

-- one definition more at the end
plain_after : (low : ℕ) (ds : PlainDefs) (mid at high : ℕ) (x : List ℕ) (e : PlainTree) → DefsRise low ds mid → mid ≤ at → Rises e → suc at ≤ high
    → DefsRise low (defs_and ds at x Plain e) high
plain_after low no_defs mid at high x e d h r top = (omega (arith, d, h), r, top)
plain_after low (defines at' x' e' ds) mid at high x e d h r top = (d.0, d.1, plain_after (suc at') ds mid at high x e d.2 h r top)
plain_after low (defines_function at' x' ns ats e' ds) mid at high x e d h r top = (d.0, d.1, plain_after (suc at') ds mid at high x e d.2 h r top)
plain_after low (defines_current at' x' e' ds) mid at high x e d h r top = (d.0, d.1, plain_after (suc at') ds mid at high x e d.2 h r top)

function_after : (low : ℕ) (ds : PlainDefs) (mid at high : ℕ) (x : List ℕ) (ps : List Parameter) (e : PlainTree) → DefsRise low ds mid → mid ≤ at → Rises e
    → suc at ≤ high
    → DefsRise low (defs_and ds at x (Function ps) e) high
function_after low no_defs mid at high x ps e d h r top = (omega (arith, d, h), r, top)
function_after low (defines at' x' e' ds) mid at high x ps e d h r top = (d.0, d.1, function_after (suc at') ds mid at high x ps e d.2 h r top)
function_after low (defines_function at' x' ns ats e' ds) mid at high x ps e d h r top = (d.0, d.1, function_after (suc at') ds mid at high x ps e d.2 h r top)
function_after low (defines_current at' x' e' ds) mid at high x ps e d h r top = (d.0, d.1, function_after (suc at') ds mid at high x ps e d.2 h r top)

current_after : (low : ℕ) (ds : PlainDefs) (mid at high : ℕ) (x : List ℕ) (e : PlainTree) → DefsRise low ds mid → mid ≤ at → Rises e → suc at ≤ high
    → DefsRise low (defs_and ds at x Current e) high
current_after low no_defs mid at high x e d h r top = (omega (arith, d, h), r, top)
current_after low (defines at' x' e' ds) mid at high x e d h r top = (d.0, d.1, current_after (suc at') ds mid at high x e d.2 h r top)
current_after low (defines_function at' x' ns ats e' ds) mid at high x e d h r top = (d.0, d.1, current_after (suc at') ds mid at high x e d.2 h r top)
current_after low (defines_current at' x' e' ds) mid at high x e d h r top = (d.0, d.1, current_after (suc at') ds mid at high x e d.2 h r top)

rise_and : (es : PlainTrees) (e : PlainTree) → RiseIn es → Rises e → RiseIn (trees_and es e)
rise_and no_trees e r s = (s, tt)
rise_and (tree e' es) e r s = (r.0, rise_and es e r.1 s)

mutual
  -- what terminals in order spell
  pub spelled_rises : {level : ℕ} {ws : List PlacedTerminal} {e : PlainTree} → Spells level ws e → (low high : ℕ) → Ordered low ws high → Rises e
  spelled_rises spells_const low high o = tt
  spelled_rises spells_name low high o = tt
  spelled_rises (spells_infix {xs = xs} {ys = ys} t op i l s r) low high o =
      let p = parted low xs (_ ∷ ys) high o in
      (spelled_rises s low p.0 p.1, (spelled_rises r _ high p.2.1, tt))
  spelled_rises (spells_prefix t op i l s) low high o = (spelled_rises s _ high o.1, tt)
  spelled_rises (spells_inner close_at {xs = xs} s) low high o =
      let p = parted _ xs (_ ∷ []) high o.1 in
      spelled_rises s _ p.0 p.1
  spelled_rises (spells_if then_at else_at fi_at {xs = xs} {ys = ys} {zs = zs} x y z) low high o =
      let p = parted _ xs _ high o.1 in
      let q = parted _ ys _ high p.2.1 in
      let r = parted _ zs _ high q.2.1 in
      (spelled_rises x _ p.0 p.1, (spelled_rises y _ q.0 q.1, (spelled_rises z _ r.0 r.1, tt)))
  spelled_rises (spells_call close_at {xs = xs} s) low high o = let p = parted _ xs (_ ∷ []) high o.1.1 in args_rise s _ p.0 p.1
  spelled_rises (spells_called close_at word op {xs = xs} i c s) low high o = let p = parted _ xs (_ ∷ []) high o.1.1 in args_rise s _ p.0 p.1
  spelled_rises (spells_block end_at {xs = xs} {ds = ds} l s d) low high o =
      let p = parted low xs _ high o in
      let q = parted _ ds (_ ∷ []) high p.2.1 in
      (spelled_rises s low p.0 p.1, (_, q.0, defs_rise d _ q.0 q.1))

  args_rise : {ws : List PlacedTerminal} {es : PlainTrees} → SpellsArgs ws es → (low high : ℕ) → Ordered low ws high → RiseIn es
  args_rise (spells_one s) low high o = (spelled_rises s low high o, tt)
  args_rise (spells_more comma_at {xs = xs} {ys = ys} {all = all} {y = y} a s) low high o =
      let p = parted low xs (_ ∷ ys) high o in
      rise_and all y (args_rise a low p.0 p.1) (spelled_rises s _ high p.2.1)

  defs_rise : {ws : List PlacedTerminal} {ds : PlainDefs} → SpellsDefs ws ds → (low high : ℕ) → Ordered low ws high → DefsRise low ds high
  defs_rise spells_none low high o = o
  defs_rise (spells_def at n equals_at semicolon_at {ds = ds} {ys = ys} {all = all} {y = y} d s) low high o =
      let p = parted low ds _ high o in
      let q = parted _ ys (_ ∷ []) high p.2.1.1 in
      plain_after low all p.0 at high n y (defs_rise d low p.0 p.1) p.2.0 (spelled_rises s _ q.0 q.1)
      (ended (suc at) (terminal_at terminal.Equals equals_at ∷ (ys ++ terminal_at terminal.Semicolon semicolon_at ∷ [])) high p.2.1)
  defs_rise (spells_function at n open_at close_at equals_at semicolon_at {ds = ds} {ns = ns} {ys = ys} {all = all} {parameters = ps} {y = y} d names s) low
      high o =
      let p = parted low ds _ high o in
      let q = parted _ ns _ high p.2.1.1 in
      let r = parted _ ys (_ ∷ []) high q.2.1.1 in
      function_after low all p.0 at high n ps y (defs_rise d low p.0 p.1) p.2.0 (spelled_rises s _ r.0 r.1)
      (ended (suc at)
      (terminal_at terminal.Open open_at ∷ (ns ++ terminal_at terminal.Close close_at ∷ terminal_at terminal.Equals
      equals_at ∷ (ys ++ terminal_at terminal.Semicolon semicolon_at ∷ []))) high p.2.1)
  defs_rise (spells_current at n is_at current_at semicolon_at {ds = ds} {ys = ys} {all = all} {y = y} d s) low high o =
      let p = parted low ds _ high o in
      let q = parted _ ys (_ ∷ []) high p.2.1.1.1 in
      current_after low all p.0 at high n y (defs_rise d low p.0 p.1) p.2.0 (spelled_rises s _ q.0 q.1)
      (ended (suc at) (terminal_at terminal.Is is_at ∷ terminal_at terminal.Current current_at ∷ (ys ++ terminal_at terminal.Semicolon semicolon_at ∷ [])) high
      p.2.1)

-- terminals stand where their tokens begin
pub ordered : {source : List ℕ} {ts : List Token} {ws : List PlacedTerminal} → Terminals source ts ws → (low limit : ℕ) → IsInOrder low ts limit
    → Ordered low ws limit
ordered terminals_none low limit o = o
ordered (terminals_next {ws = ws} t w s r) low limit o =
    (o.0, lower (suc t.from) t.to ws limit (omega (arith, o.1)) (ordered r t.to limit o.2))
