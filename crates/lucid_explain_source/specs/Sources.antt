-- What is said of a source that is refused.
use Rattle.std.specs.Prelude.{◌≡◌, ◌≢◌, ℕ, List, ◌++◌, length, min, codes, Some}
use Rattle.lucid_scan.specs.declared.token.Token.{Token}
use Rattle.lucid_scan.specs.declared.refusal.ScanRefusal.{ScanRefusal}
use Rattle.lucid_scan.specs.declared.refusal.ScanRefusal.TheVariants as scanned
use Rattle.lucid_scan.specs.Refusals.{Refuses}
use Rattle.lucid_parse.specs.declared.refusal.ParseRefusal.TheVariants as refusal
use Rattle.lucid_parse.specs.Spelled.{IsSourceRefused}
use Rattle.lucid_tree.specs.Tree.{PlainTree}
use Rattle.lucid_scope.specs.declared.refusal.ScopeRefusal.{ScopeRefusal}
use Rattle.lucid_scope.specs.Bindings.{IsLeastFault}
use Rattle.lucid_explain_places.specs.declared.candidates.Candidate.{Candidate}
use Rattle.lucid_explain_source.specs.Accepted.{HasTokens, IsSpelt}
use Rattle.lucid_explain_places.specs.Shown.{place_text}
use Rattle.lucid_explain_places.specs.Standing.{AreStanding}
use Rattle.lucid_explain_source.specs.declared.fault.Fault.{Fault}
use Rattle.lucid_explain_source.specs.declared.fault.Fault.TheVariants as faults
use Rattle.lucid_explain_source.specs.Faults.{scan_fault, names_fault}
use Rattle.lucid_explain_source.specs.Advice.{scan_text}
use Rattle.lucid_explain_places.specs.Around.{around_at}
use Rattle.lucid_explain_places.specs.Syntax.{syntax_text}
use Rattle.lucid_explain_source.specs.Names.{names_text}

abbrev pub nested_advice : List ℕ
nested_advice = codes "This stands more than 400 levels deep: give an inner part a name of its own behind `where`.\n"

-- what is said of a place at which a tree is too deep
abbrev pub depth_text : (file source : List ℕ) → (at : ℕ) → List ℕ
depth_text file source at = place_text file source (min (length source) at) ++ nested_advice

-- The text says why a source is refused, and where: the scanner refuses it, or the parser its tokens, or the names of its tree are at fault. This is
-- that fault.
pub data Explains (file source : List ℕ) (fault : Fault) (text : List ℕ) : Type 0 where
  by_scan : (why : ScanRefusal) → why ≢ scanned.NoMemory → Refuses source why → Some fault ≡ scan_fault why → text ≡ scan_text file source why
      → Explains file source fault text
  by_syntax : (tokens : List Token) (at : ℕ) (those : List Candidate) → HasTokens source tokens → IsSourceRefused source tokens (refusal.Syntax at) → AreStanding source at those
      → fault ≡ faults.Syntax at → text ≡ syntax_text file source at (around_at source tokens at) those → Explains file source fault text
  by_depth : (tokens : List Token) (at : ℕ) → HasTokens source tokens → IsSourceRefused source tokens (refusal.TooNested at)
      → fault ≡ faults.TooNested at → text ≡ depth_text file source at → Explains file source fault text
  by_names : (tree : PlainTree) (why : ScopeRefusal) → IsSpelt source tree → IsLeastFault tree why
      → Some fault ≡ names_fault why → text ≡ names_text file source tree why → Explains file source fault text
