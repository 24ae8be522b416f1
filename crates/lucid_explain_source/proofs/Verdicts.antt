-- A source is accepted or refused, and where it is refused one fault alone is explained.
use Rattle.lucid_explain_source.proofs.Common.{◌≡◌, List, ℕ, ap, sym, subst, ◌∙◌}
use Rattle.std.specs.Prelude.{◌≢◌, Some}
use Rattle.lucid_scan.specs.declared.token.Token.{Token}
use Rattle.lucid_scan.specs.declared.refusal.ScanRefusal.{ScanRefusal}
use Rattle.lucid_scan.specs.declared.refusal.ScanRefusal.TheVariants as scanned
use Rattle.lucid_scan.specs.Refusals.{Refuses}
use Rattle.lucid_scan.specs.Laws.{TokensAreUnique, TokensAreNotRefused, RefusalIsUnique}
use Rattle.lucid_parse.specs.declared.refusal.ParseRefusal.{ParseRefusal}
use Rattle.lucid_parse.specs.declared.refusal.ParseRefusal.TheVariants as parsed
use Rattle.lucid_parse.specs.Spelled.{SpellsTree, IsSourceRefused}
use Rattle.lucid_parse.specs.Laws.{TokensSpellOneTree, SpelledTreesAreWellMade, TokensHaveOneRefusal, SpelledTokensAreNotRefused}
use Rattle.lucid_tree.specs.Tree.{PlainTree}
use Rattle.lucid_scope.specs.declared.refusal.ScopeRefusal.{ScopeRefusal}
use Rattle.lucid_scope.specs.Bindings.{IsLeastFault}
use Rattle.lucid_scope.specs.Laws.{LeastFaultIsUnique, NoFaultIsLeast}
use Rattle.lucid_explain_source.specs.Accepted.{HasTokens, IsSpelt, IsAccepted, IsTurnedDown, by_scanner, by_parser, by_names}
use Rattle.lucid_explain_source.specs.declared.fault.Fault.{Fault}
use Rattle.lucid_explain_source.specs.declared.fault.Fault.TheVariants as faults
use Rattle.lucid_explain_source.specs.Faults.{scan_fault, names_fault}
use Rattle.lucid_explain_source.specs.Sources.{Explains, by_scan, by_syntax, by_depth, by_names as by_fault}

-- the laws of tokens, trees and names
pub record Laws : Type 0 where
  pub tokens : TokensAreUnique
  pub not_refused : TokensAreNotRefused
  pub scans : RefusalIsUnique
  pub trees : TokensSpellOneTree
  pub well_made : SpelledTreesAreWellMade
  pub refusals : TokensHaveOneRefusal
  pub spelled : SpelledTokensAreNotRefused
  pub faults : LeastFaultIsUnique
  pub none : NoFaultIsLeast

module _ (laws : Laws) (source : List ℕ) where
  -- it has one list of tokens, and spells one tree
  same_tokens : (ts us : List Token) → HasTokens source ts → HasTokens source us → ts ≡ us
  same_tokens ts us h i = laws.tokens source ts us h.listed i.listed

  same_tree : (e f : PlainTree) → IsSpelt source e → IsSpelt source f → e ≡ f
  same_tree e f s t =
      let P : List Token → Type 0 = λ z. SpellsTree source z e in
      laws.trees source t.tokens e f (subst P (same_tokens s.tokens t.tokens s.scanned t.scanned) s.spelled) t.spelled

  -- what has tokens isn't refused by the scanner, and what spells a tree isn't by the parser
  no_scan : (ts : List Token) (why : ScanRefusal) → HasTokens source ts → why ≢ scanned.NoMemory → Refuses source why → ⊥
  no_scan ts why h known r = known (laws.not_refused source ts why h.listed h.short r)

  no_parse : (ts : List Token) (why : ParseRefusal) (e : PlainTree) → HasTokens source ts → why ≢ parsed.NoMemory → IsSourceRefused source ts why → IsSpelt source e
      → ⊥
  no_parse ts why e h known r s =
      let P : List Token → Type 0 = λ z. SpellsTree source z e in
      known (laws.spelled source ts e why (subst P (same_tokens s.tokens ts s.scanned h) s.spelled) s.shallow r)

  pub accepted_or_refused : IsAccepted source → IsTurnedDown source → ⊥
  accepted_or_refused a (by_scanner why known r) = no_scan a.1.spelt.tokens why a.1.spelt.scanned known r
  accepted_or_refused a (by_parser ts why known h r) = no_parse ts why a.0 h known r a.1.spelt
  accepted_or_refused a (by_names e why s least) =
      let P : PlainTree → Type 0 = λ z. IsLeastFault z why in
      laws.none a.0 why a.1.no_fault (subst P (same_tree e a.0 s a.1.spelt) least)

  -- the fault by what refuses the source
  pub data Cause (fault : Fault) : Type 0 where
    of_scan : (why : ScanRefusal) → why ≢ scanned.NoMemory → Refuses source why → Some fault ≡ scan_fault why → Cause fault
    of_syntax : (ts : List Token) (at : ℕ) → HasTokens source ts → IsSourceRefused source ts (parsed.Syntax at) → fault ≡ faults.Syntax at → Cause fault
    of_depth : (ts : List Token) (at : ℕ) → HasTokens source ts → IsSourceRefused source ts (parsed.TooNested at) → fault ≡ faults.TooNested at → Cause fault
    of_names : (e : PlainTree) (why : ScopeRefusal) → IsSpelt source e → IsLeastFault e why → Some fault ≡ names_fault why → Cause fault

  pub cause : (file : List ℕ) (fault : Fault) (text : List ℕ) → Explains file source fault text → Cause fault
  cause file fault text (by_scan why known r l t) = of_scan why known r l
  cause file fault text (by_syntax ts at those h r a l t) = of_syntax ts at h r l
  cause file fault text (by_depth ts at h r l t) = of_depth ts at h r l
  cause file fault text (by_fault e why s f l t) = of_names e why s f l

  syntax_known : (at : ℕ) → parsed.Syntax at ≢ parsed.NoMemory
  syntax_known at e = cc

  nested_known : (at : ℕ) → parsed.TooNested at ≢ parsed.NoMemory
  nested_known at e = cc

  pub explained_are_refused : (file : List ℕ) (fault : Fault) (text : List ℕ) → Explains file source fault text → IsTurnedDown source
  explained_are_refused file fault text (by_scan why known r l t) = by_scanner why known r
  explained_are_refused file fault text (by_syntax ts at those h r a l t) = by_parser ts (parsed.Syntax at) (syntax_known at) h r
  explained_are_refused file fault text (by_depth ts at h r l t) = by_parser ts (parsed.TooNested at) (nested_known at) h r
  explained_are_refused file fault text (by_fault e why s f l t) = by_names e why s f

  one_refusal : (ts us : List Token) (why other : ParseRefusal) → HasTokens source ts → HasTokens source us → IsSourceRefused source ts why
      → IsSourceRefused source us other
      → why ≢ parsed.NoMemory → other ≢ parsed.NoMemory → why ≡ other
  one_refusal ts us why other h i r s known too =
      let P : List Token → Type 0 = λ z. IsSourceRefused source z why in
      laws.refusals source us why other (subst P (same_tokens ts us h i) r) s known too

  one_cause : (fault other : Fault) → Cause fault → Cause other → fault ≡ other
  one_cause fault other (of_scan why known r l) (of_scan two too s m) =
      let e : Some fault ≡ Some other = l ∙ ap scan_fault (laws.scans source why two r s known too) ∙ sym m in cc
  one_cause fault other (of_scan why known r l) (of_syntax us at i s m) = absurd (no_scan us why i known r)
  one_cause fault other (of_scan why known r l) (of_depth us at i s m) = absurd (no_scan us why i known r)
  one_cause fault other (of_scan why known r l) (of_names f two t g m) = absurd (no_scan t.tokens why t.scanned known r)
  one_cause fault other (of_syntax ts at h r l) (of_scan two too s m) = absurd (no_scan ts two h too s)
  one_cause fault other (of_syntax ts at h r l) (of_syntax us to i s m) =
      let e = one_refusal ts us (parsed.Syntax at) (parsed.Syntax to) h i r s (syntax_known at) (syntax_known to) in
      let same : at ≡ to = cc in
      l ∙ ap (λ (z : ℕ). faults.Syntax z) same ∙ sym m
  one_cause fault other (of_syntax ts at h r l) (of_depth us to i s m) =
      let e = one_refusal ts us (parsed.Syntax at) (parsed.TooNested to) h i r s (syntax_known at) (nested_known to) in absurd (cc)
  one_cause fault other (of_syntax ts at h r l) (of_names f two t g m) = absurd (no_parse ts (parsed.Syntax at) f h (syntax_known at) r t)
  one_cause fault other (of_depth ts at h r l) (of_scan two too s m) = absurd (no_scan ts two h too s)
  one_cause fault other (of_depth ts at h r l) (of_syntax us to i s m) =
      let e = one_refusal ts us (parsed.TooNested at) (parsed.Syntax to) h i r s (nested_known at) (syntax_known to) in absurd (cc)
  one_cause fault other (of_depth ts at h r l) (of_depth us to i s m) =
      let e = one_refusal ts us (parsed.TooNested at) (parsed.TooNested to) h i r s (nested_known at) (nested_known to) in
      let same : at ≡ to = cc in
      l ∙ ap (λ (z : ℕ). faults.TooNested z) same ∙ sym m
  one_cause fault other (of_depth ts at h r l) (of_names f two t g m) = absurd (no_parse ts (parsed.TooNested at) f h (nested_known at) r t)
  one_cause fault other (of_names e why s f l) (of_scan two too t m) = absurd (no_scan s.tokens two s.scanned too t)
  one_cause fault other (of_names e why s f l) (of_syntax us at i t m) = absurd (no_parse us (parsed.Syntax at) e i (syntax_known at) t s)
  one_cause fault other (of_names e why s f l) (of_depth us at i t m) = absurd (no_parse us (parsed.TooNested at) e i (nested_known at) t s)
  one_cause fault other (of_names e why s f l) (of_names d two t g m) =
      let P : PlainTree → Type 0 = λ z. IsLeastFault z two in
      let made = laws.well_made source s.tokens e s.scanned.short s.scanned.listed s.spelled in
      let same : Some fault ≡ Some other = l ∙ ap names_fault (laws.faults e why two made f (subst P (same_tree d e t s) g)) ∙ sym m in cc

  pub one_fault : (file : List ℕ) (fault : Fault) (text : List ℕ) (other : Fault) (said : List ℕ) → Explains file source fault text
      → Explains file source other said → fault ≡ other
  one_fault file fault text other said x y = one_cause fault other (cause file fault text x) (cause file other said y)
