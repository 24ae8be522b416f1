-- A source has at most one refusal, and the names of a tree have.
use Rattle.lucid_top.proofs.Common.{◌≡◌, ℕ, List, length, ap, subst, Token, ScanRefusal, ParseRefusal, PlacedTerminal, Spells, Terminals, Refusal, Stop, scan_stop, parse_stop, HasTokens, by_scan, by_parse, OneTextRefusal, OneNameRefusal}
use Rattle.lucid_scan.specs.declared.refusal.ScanRefusal.TheVariants as scan
use Rattle.lucid_scan.specs.Laws.{TokensAreUnique, TokensAreNotRefused, RefusalIsUnique}
use Rattle.lucid_scan.specs.Refusals.{Refuses}
use Rattle.lucid_parse.specs.declared.refusal.ParseRefusal.TheVariants as parse
use Rattle.lucid_parse.specs.Depth.{at_depth, IsLeast}
use Rattle.lucid_parse.specs.Verdict.{IsFault}
use Rattle.lucid_parse.specs.Spelled.{IsSourceRefused}
use Rattle.lucid_parse.specs.Laws.{FaultIsUnique, TerminalsAreUnique, TerminalsSpellOneTree}
use Rattle.lucid_parse.proofs.Verdicts.{least_once}
use Rattle.lucid_scope.specs.Laws.{LeastFaultIsUnique}
use Rattle.lucid_report.specs.declared.refusal.Refusal.TheVariants as refusal
use Rattle.lucid_report.specs.declared.stop.Stop.TheVariants as stop
use Rattle.lucid_report.specs.Refusals.{scope_stop}

-- the laws of tokens, terminals and trees
pub record Laws : Type 0 where
  pub tokens : TokensAreUnique
  pub accepted : TokensAreNotRefused
  pub terminals : TerminalsAreUnique
  pub trees : TerminalsSpellOneTree
  pub scans : RefusalIsUnique
  pub faults : FaultIsUnique

-- a refusal isn't want of memory
not_memory : (e : ScanRefusal) (v : Refusal) → scan_stop e ≡ stop.Refused v → e ≡ scan.NoMemory → ⊥
not_memory e v is none = let here : scan_stop e ≡ stop.NoMemory = ap scan_stop none in absurd (cc (here, is))

one_why : (x y : Stop) (v w : Refusal) → x ≡ stop.Refused v → y ≡ stop.Refused w → x ≡ y → v ≡ w
one_why x y v w a b same = cc

scan_scan : Laws → (source : List ℕ) (e f : ScanRefusal) (v w : Refusal) → scan_stop e ≡ stop.Refused v → scan_stop f ≡ stop.Refused w → Refuses source e
    → Refuses source f → v ≡ w
scan_scan l source e f v w is js r s =
    let same : e ≡ f = l.scans source e f r s (not_memory e v is) (not_memory f w js) in one_why (scan_stop e) (scan_stop f) v w is js (ap scan_stop same)

no_scan : Laws → (source : List ℕ) (tokens : List Token) (e : ScanRefusal) (v : Refusal) → HasTokens source tokens → scan_stop e ≡ stop.Refused v
    → Refuses source e → ⊥
no_scan l source tokens e v has is r = not_memory e v is (l.accepted source tokens e has.listed has.short r)

-- the terminals of the same tokens
same_terminals : Laws → (source : List ℕ) (ts us : List Token) (ws vs : List PlacedTerminal) → HasTokens source ts → HasTokens source us
    → Terminals source ts ws → Terminals source us vs
    → ws ≡ vs
same_terminals l source ts us ws vs a b x y =
    let same : us ≡ ts = l.tokens source us ts b.listed a.listed in l.terminals source ts ws vs x (subst (λ t. Terminals source t vs) same y)

parse_parse : Laws → (source : List ℕ) (ts us : List Token) (e f : ParseRefusal) (v w : Refusal) → parse_stop e ≡ stop.Refused v → parse_stop f ≡ stop.Refused w
    → HasTokens source ts → HasTokens source us → IsSourceRefused source ts e → IsSourceRefused source us f → v ≡ w
parse_parse l source ts us (parse.Syntax a) (parse.Syntax b) v w is js x y r s =
    let words : r.0 ≡ s.0 = same_terminals l source ts us r.0 s.0 x y r.1 s.1 in
    let at : a ≡ b = l.faults s.0 (length source) a b (subst (λ ws. IsFault ws (length source) a) words r.2.1) s.2.1 in
    one_why (stop.Refused (refusal.Syntax a)) (stop.Refused (refusal.Syntax b)) v w is js (ap (λ p. stop.Refused (refusal.Syntax p)) at)
parse_parse l source ts us (parse.Syntax a) (parse.TooNested b) v w is js x y r s =
    let words : s.0 ≡ r.0 = same_terminals l source us ts s.0 r.0 y x s.1 r.1 in absurd (r.2.0 s.2.0 (subst (λ ws. Spells 0 ws s.2.0) words s.2.1))
parse_parse l source ts us (parse.TooNested a) (parse.Syntax b) v w is js x y r s =
    let words : r.0 ≡ s.0 = same_terminals l source ts us r.0 s.0 x y r.1 s.1 in absurd (s.2.0 r.2.0 (subst (λ ws. Spells 0 ws r.2.0) words r.2.1))
parse_parse l source ts us (parse.TooNested a) (parse.TooNested b) v w is js x y r s =
    let words : r.0 ≡ s.0 = same_terminals l source ts us r.0 s.0 x y r.1 s.1 in
    let tree : r.2.0 ≡ s.2.0 = l.trees s.0 r.2.0 s.2.0 (subst (λ ws. Spells 0 ws r.2.0) words r.2.1) s.2.1 in
    let at : a ≡ b = least_once (at_depth 401 s.2.0) a b (subst (λ t. IsLeast (at_depth 401 t) a) tree r.2.3) s.2.3 in
    one_why (stop.Refused (refusal.TooNested a)) (stop.Refused (refusal.TooNested b)) v w is js (ap (λ p. stop.Refused (refusal.TooNested p)) at)
parse_parse l source ts us parse.NoMemory f v w is js x y r s = absurd (cc (is))
parse_parse l source ts us e parse.NoMemory v w is js x y r s = absurd (cc (js))

pub one_text_refusal : Laws → OneTextRefusal
one_text_refusal l source v w (by_scan e is r) (by_scan f js s) = scan_scan l source e f v w is js r s
one_text_refusal l source v w (by_scan e is r) (by_parse f tokens js has s) = absurd (no_scan l source tokens e v has is r)
one_text_refusal l source v w (by_parse e tokens is has r) (by_scan f js s) = absurd (no_scan l source tokens f w has js s)
one_text_refusal l source v w (by_parse e ts is x r) (by_parse f us js y s) = parse_parse l source ts us e f v w is js x y r s

pub one_name_refusal : LeastFaultIsUnique → OneNameRefusal
one_name_refusal least p v w made x y =
    let same : x.fault ≡ y.fault = least p x.fault y.fault made x.least y.least in
    one_why (scope_stop x.fault) (scope_stop y.fault) v w x.is y.is (ap scope_stop same)
