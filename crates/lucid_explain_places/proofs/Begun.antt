-- What the parser's answer for bytes says of the programs that begin with them.
use Rattle.lucid_explain_places.proofs.Common.{◌≡◌, ℕ, zero, suc, ◌≤◌, ◌<◌, inl, inr, List, ◌∷◌, length, map, take, get_or, sym, subst, arith, cases_lt, [], Result, Ok, Err, append-nil, get_or_past, length-map, take_all, Option, MatchOption, IfOk, IfErr, result_err}
use Rattle.lucid_scan.specs.declared.token.Token.{Token}
use Rattle.lucid_parse.specs.declared.refusal.ParseRefusal.{ParseRefusal}
use Rattle.lucid_scan.specs.Tokens.{Tokens}
use Rattle.lucid_scan.specs.Laws.{IsInOrder, TokensAreInOrder, TokensAreUnique, TokensAreNotRefused}
use Rattle.lucid_scan.specs.Refusals.{Refuses}
use Rattle.lucid_scan.specs.declared.refusal.ScanRefusal.{ScanRefusal}
use Rattle.lucid_scan.specs.declared.refusal.ScanRefusal.TheVariants as scanned
use Rattle.lucid_parse.specs.Laws.{TerminalsAreUnique}
use Rattle.std.proofs.Common.{◌≢◌, ◌++◌, ◌+◌, drop, ap, ◌∙◌, append_assoc}
use Rattle.std.proofs.lemmas.List.{take-append-drop}
use Rattle.lucid_tree.specs.Tree.{PlainTree}
use Rattle.lucid_parse.specs.Grammar.{PlacedTerminal, Spells}
use Rattle.lucid_parse.specs.Terminals.{Terminals, terminals_none, terminals_next}
use Rattle.lucid_parse.specs.Verdict.{Begins, IsFault}
use Rattle.lucid_parse.specs.Spelled.{SpellsTree, IsSourceRefused}
use Rattle.lucid_parse.specs.declared.refusal.ParseRefusal.TheVariants as refusal
use Rattle.lucid_explain_places.specs.Standing.{GoesOn, IsBegun}

-- a program begins with its own terminals
spelled_begins : (ws : List PlacedTerminal) (e : PlainTree) → Spells 0 ws e → Begins ws
spelled_begins ws e s =
    let P : List PlacedTerminal → Type 0 = λ vs. Spells 0 vs e in
    ([], e, subst P (sym (append-nil ws)) s)

order_within : (ts : List Token) (low limit : ℕ) → IsInOrder low ts limit → low ≤ limit
order_within [] low limit o = o
order_within (t ∷ ts) low limit o = let rest = order_within ts t.to limit o.2 in omega (arith, o.0, o.1)

in_order_at : (ts : List Token) (low limit : ℕ) → IsInOrder low ts limit → (i : ℕ) (d : Token) → i < length ts
    → ((get_or ts i d).from ≤ (get_or ts i d).to) × ((get_or ts i d).to ≤ limit)
in_order_at [] low limit o i d h = absurd (omega (arith, h))
in_order_at (t ∷ ts) low limit o zero d h = let rest = order_within ts t.to limit o.2 in (omega (arith, o.1), rest)
in_order_at (t ∷ ts) low limit o (suc i) d h = in_order_at ts t.to limit o.2 i d (omega (arith, h))

-- a token lies within the source
pub token_within : (source : List ℕ) (ts : List Token) (i : ℕ) (d : Token) → TokensAreInOrder → Tokens source 0 ts → i < length ts
    → ((get_or ts i d).from ≤ (get_or ts i d).to) × ((get_or ts i d).to ≤ length source)
token_within source ts i d law scanned h = in_order_at ts 0 (length source) (law source ts scanned) i d h

-- each terminal stands before the end of the bytes
stands_before : {source : List ℕ} {ts : List Token} {ws : List PlacedTerminal} → Terminals source ts ws → (low limit : ℕ) → IsInOrder low ts limit
    → (k d : ℕ) → k < length ws → get_or (map (λ (one : PlacedTerminal). one.at) ws) k d < limit
stands_before terminals_none low limit o k d h = absurd (omega arith)
stands_before (terminals_next {ts = ts} t w s r) low limit o zero d h = let rest = order_within ts t.to limit o.2 in omega (arith, o.1)
stands_before (terminals_next {ws = ws} t w s r) low limit o (suc k) d h = stands_before r t.to limit o.2 k d (omega arith)

-- where the fault is the end, a program begins with all of them
pub begun_at_end : (source : List ℕ) (ts : List Token) (ws : List PlacedTerminal) (at : ℕ) → TokensAreInOrder → Tokens source 0 ts → Terminals source ts ws
    → IsFault ws (length source) at → at ≡ length source → GoesOn source
begun_at_end source ts ws at law scanned named fault end = elim (cases_lt fault.index (length ws)) [
  | inl below ↦
      let before = stands_before named 0 (length source) (law source ts scanned) fault.index (length source) below in
      absurd (omega (arith, before, fault.place, end))
  | inr above ↦
      let same : fault.index ≡ length ws = omega (arith, above, fault.within) in
      let P : ℕ → Type 0 = λ n. Begins (take n ws) in
      let Q : List PlacedTerminal → Type 0 = λ vs. Begins vs in
      record {
        tokens = ts;
        terminals = ws;
        scanned = scanned;
        stand_for = named;
        begins = subst Q (take_all (length ws) ws (omega arith)) (subst P same fault.before);
      }
]

-- what is a program is gone on with
pub gone_on : (source : List ℕ) (ts : List Token) (e : PlainTree) → Tokens source 0 ts → SpellsTree source ts e → GoesOn source
gone_on source ts e scanned spelt =
    record { tokens = ts; terminals = spelt.0; scanned = scanned; stand_for = spelt.1; begins = spelled_begins spelt.0 e spelt.2 }

-- and so is what is too deep for one
pub nested_goes_on : (source : List ℕ) (ts : List Token) (ws : List PlacedTerminal) (e : PlainTree) → Tokens source 0 ts → Terminals source ts ws
    → Spells 0 ws e → GoesOn source
nested_goes_on source ts ws e scanned named spelt =
    record { tokens = ts; terminals = ws; scanned = scanned; stand_for = named; begins = spelled_begins ws e spelt }

-- A fault stands within the source.
pub fault_within : (source : List ℕ) (ts : List Token) (at : ℕ) → TokensAreInOrder → Tokens source 0 ts → IsSourceRefused source ts (refusal.Syntax at)
    → at ≤ length source
fault_within source ts at law scanned r =
    let fault : IsFault r.0 (length source) at = r.2.1 in
    elim (cases_lt fault.index (length r.0)) [
      | inl below ↦
          let before = stands_before r.1 0 (length source) (law source ts scanned) fault.index (length source) below in
          omega (arith, before, fault.place)
      | inr above ↦
          let end : get_or (map (λ (one : PlacedTerminal). one.at) r.0) fault.index (length source) ≡ length source =
          get_or_past (map (λ (one : PlacedTerminal). one.at) r.0) fault.index (length source)
          (omega (arith, above, length-map r.0 (λ (one : PlacedTerminal). one.at))) in
          omega (arith, end, fault.place)
    ]

-- what the parser's answer says, by its refusal
pub answered : (source : List ℕ) (ts : List Token) (r : Result PlainTree ParseRefusal) (o : Option ParseRefusal) → Tokens source 0 ts
    → IfOk r (λ e. SpellsTree source ts e)
    → IfErr r (λ why. IsSourceRefused source ts why) → o ≡ result_err r → MatchOption o (GoesOn source) (λ why. IsSourceRefused source ts why)
answered source ts (Ok e) o scanned spelt refused is = let P : Option ParseRefusal
    → Type 0 = λ p. MatchOption p (GoesOn source) (λ why. IsSourceRefused source ts why) in
    subst P (sym is) (gone_on source ts e scanned spelt)
answered source ts (Err why) o scanned spelt refused is = let P : Option ParseRefusal
    → Type 0 = λ p. MatchOption p (GoesOn source) (λ why. IsSourceRefused source ts why) in
    subst P (sym is) refused

-- What a program begins with is begun so too.
front_begins : (ws : List PlacedTerminal) (n : ℕ) → Begins ws → Begins (take n ws)
front_begins ws n b =
    let P : List PlacedTerminal → Type 0 = λ vs. Spells 0 vs b.1 in
    let parts : take n ws ++ (drop n ws ++ b.0) ≡ ws ++ b.0 =
    sym (append_assoc (take n ws) (drop n ws) b.0) ∙ ap (λ (vs : List PlacedTerminal). vs ++ b.0) (take-append-drop n ws) in
    (drop n ws ++ b.0, b.1, subst P (sym parts) b.2)

-- Where some program goes on with the bytes, their tokens have no fault before the end.
pub begun_ends : (source : List ℕ) (ts : List Token) (ws : List PlacedTerminal) (at : ℕ) → TokensAreUnique → TerminalsAreUnique → Tokens source 0 ts
    → Terminals source ts ws → IsFault ws (length source) at → GoesOn source → at ≡ length source
begun_ends source ts ws at one_tokens one_terminals scanned named fault g =
    let P : List Token → Type 0 = λ us. Terminals source us g.terminals in
    let Q : List PlacedTerminal → Type 0 = λ vs. Begins vs in
    let same : g.terminals ≡ ws = one_terminals source ts g.terminals ws (subst P (one_tokens source g.tokens ts g.scanned scanned) g.stand_for) named in
    let begun : Begins ws = subst Q same g.begins in
    elim (cases_lt fault.index (length ws)) [
      | inl below ↦ absurd (fault.through below (front_begins ws (fault.index + 1) begun))
      | inr above ↦
          fault.place
          ∙ get_or_past (map (λ (one : PlacedTerminal). one.at) ws) fault.index (length source)
          (omega (arith, above, length-map ws (λ (one : PlacedTerminal). one.at)))
    ]

-- Bytes that the scanner refuses are begun by no program.
pub not_begun : (source : List ℕ) (why : ScanRefusal) → TokensAreNotRefused → Refuses source why → why ≢ scanned.NoMemory → IsBegun source → ⊥
not_begun source why law refused known g = known (law source g.goes_on.tokens why g.goes_on.scanned g.short refused)
