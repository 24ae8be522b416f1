-- What the canonical source of a tree that was parsed is read as.
use Rattle.std.specs.Prelude.{◌≡◌, ℕ, ◌≤◌, List, [], length}
use Rattle.lucid_scan.specs.declared.token.Token.{Token}
use Rattle.lucid_scan.specs.Tokens.{Tokens}
use Rattle.lucid_scan.specs.declared.refusal.ScanRefusal.{ScanRefusal}
use Rattle.lucid_scan.specs.declared.refusal.ScanRefusal.TheVariants as scan_refusal
use Rattle.lucid_scan.specs.Refusals.{Refuses, most_source_bytes}
use Rattle.lucid_tree.specs.Tree.{PlainTree, form, name, call, block, PlainTrees, no_trees, tree, PlainDefs, no_defs, defines, defines_function, defines_current}
use Rattle.lucid_tree.specs.WellMade.{depth, most_tree_depth}
use Rattle.lucid_parse.specs.declared.refusal.ParseRefusal.{ParseRefusal}
use Rattle.lucid_parse.specs.declared.refusal.ParseRefusal.TheVariants as parse_refusal
use Rattle.lucid_parse.specs.Spelled.{SpellsTree, IsSourceRefused}
use Rattle.lucid_print.specs.Canonical.{canonical}

-- The tree with no places: trees that are the same up to places are one without them.
abbrev mutual
  pub unplaced : PlainTree → PlainTree
  unplaced (form at h es) = form 0 h (all_unplaced es)
  unplaced (name at n) = name 0 n
  unplaced (call at n es) = call 0 n (all_unplaced es)
  unplaced (block at e ds) = block 0 (unplaced e) (defs_unplaced ds)

  pub all_unplaced : PlainTrees → PlainTrees
  all_unplaced no_trees = no_trees
  all_unplaced (tree e es) = tree (unplaced e) (all_unplaced es)

  pub defs_unplaced : PlainDefs → PlainDefs
  defs_unplaced no_defs = no_defs
  defs_unplaced (defines at n e ds) = defines 0 n (unplaced e) (defs_unplaced ds)
  defs_unplaced (defines_function at n ps ats e ds) = defines_function 0 n ps [] (unplaced e) (defs_unplaced ds)
  defs_unplaced (defines_current at n e ds) = defines_current 0 n (unplaced e) (defs_unplaced ds)

-- Parsing some source gives the tree.
pub record IsParsed (e : PlainTree) : Type 0 where
  pub source : List ℕ
  pub tokens : List Token
  pub are_tokens : Tokens source 0 tokens
  pub spells : SpellsTree source tokens e
  pub shallow : depth e ≤ most_tree_depth

-- Scanning and parsing the source gives a tree that is this one up to places; for want of memory alone are they refused.
pub record IsReadAs (source : List ℕ) (e : PlainTree) : Type 0 where
  pub tokens : List Token
  pub are_tokens : Tokens source 0 tokens
  pub tree : PlainTree
  pub spells : SpellsTree source tokens tree
  pub shallow : depth tree ≤ most_tree_depth
  pub same : unplaced tree ≡ unplaced e
  pub scanned : (why : ScanRefusal) → Refuses source why → why ≡ scan_refusal.NoMemory
  pub parsed : (why : ParseRefusal) → IsSourceRefused source tokens why → why ≡ parse_refusal.NoMemory

-- The canonical source of a tree that was parsed is read as that tree, up to places, where it isn't too long to be read at all.
abbrev pub CanonicalIsReadAgain : Type 0
CanonicalIsReadAgain = (e : PlainTree) → IsParsed e → length (canonical e) ≤ most_source_bytes → IsReadAs (canonical e) e
