-- Sources that are accepted, and those that are refused.
use Rattle.std.specs.Prelude.{◌≢◌, ℕ, ◌≤◌, List, length}
use Rattle.lucid_scan.specs.declared.token.Token.{Token}
use Rattle.lucid_scan.specs.declared.refusal.ScanRefusal.{ScanRefusal}
use Rattle.lucid_scan.specs.declared.refusal.ScanRefusal.TheVariants as scanned
use Rattle.lucid_scan.specs.Tokens.{Tokens}
use Rattle.lucid_scan.specs.Refusals.{Refuses, most_source_bytes}
use Rattle.lucid_parse.specs.declared.refusal.ParseRefusal.{ParseRefusal}
use Rattle.lucid_parse.specs.declared.refusal.ParseRefusal.TheVariants as parsed
use Rattle.lucid_parse.specs.Spelled.{SpellsTree, IsSourceRefused}
use Rattle.lucid_tree.specs.Tree.{PlainTree}
use Rattle.lucid_tree.specs.WellMade.{depth, most_tree_depth}
use Rattle.lucid_scope.specs.declared.refusal.ScopeRefusal.{ScopeRefusal}
use Rattle.lucid_scope.specs.Bindings.{HasNoFault, IsLeastFault}

-- The source isn't too long, and these are its tokens.
pub record HasTokens (source : List ℕ) (tokens : List Token) : Type 0 where
  pub short : length source ≤ most_source_bytes
  pub listed : Tokens source 0 tokens

-- The source spells the tree, which isn't too deep.
pub record IsSpelt (source : List ℕ) (tree : PlainTree) : Type 0 where
  pub tokens : List Token
  pub scanned : HasTokens source tokens
  pub spelled : SpellsTree source tokens tree
  pub shallow : depth tree ≤ most_tree_depth

-- The source is accepted, and this is its tree, whose names have no fault.
pub record IsProgram (source : List ℕ) (tree : PlainTree) : Type 0 where
  pub spelt : IsSpelt source tree
  pub no_fault : HasNoFault tree

-- The source isn't refused: it has a tree.
abbrev pub IsAccepted : List ℕ → Type 0
IsAccepted source = (tree : PlainTree) × IsProgram source tree

-- The source is refused, and not for want of memory: by the scanner, or its tokens by the parser, or a name of its tree is at fault.
pub data IsTurnedDown (source : List ℕ) : Type 0 where
  by_scanner : (why : ScanRefusal) → why ≢ scanned.NoMemory → Refuses source why → IsTurnedDown source
  by_parser : (tokens : List Token) (why : ParseRefusal) → why ≢ parsed.NoMemory → HasTokens source tokens → IsSourceRefused source tokens why → IsTurnedDown source
  by_names : (tree : PlainTree) (why : ScopeRefusal) → IsSpelt source tree → IsLeastFault tree why → IsTurnedDown source
