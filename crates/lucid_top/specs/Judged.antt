-- What becomes of a source: the scanner or the parser refuses its text, or it spells a tree; then the names of the tree are refused, or
-- none is at fault; and then its columns or its judgment may be refused.
use Rattle.std.specs.Prelude.{◌≡◌, ℕ, ◌≤◌, ◌⊎◌, List, length, Some, slice_get}
use Rattle.lucid_tree.specs.Tree.{PlainTree}
use Rattle.lucid_tree.specs.WellMade.{depth, most_tree_depth, places, IsWellMade}
use Rattle.lucid_scan.specs.declared.token.Token.{Token}
use Rattle.lucid_scan.specs.declared.refusal.ScanRefusal.{ScanRefusal}
use Rattle.lucid_scan.specs.Tokens.{Tokens}
use Rattle.lucid_scan.specs.Refusals.{Refuses, most_source_bytes}
use Rattle.lucid_parse.specs.declared.refusal.ParseRefusal.{ParseRefusal}
use Rattle.lucid_parse.specs.Spelled.{SpellsTree, IsSourceRefused}
use Rattle.lucid_scope.specs.declared.refusal.ScopeRefusal.{ScopeRefusal}
use Rattle.lucid_scope.specs.Bindings.{HasNoFault, IsLeastFault, AreInputs, IsResolved}
use Rattle.lucid_scope.specs.Scoped.{scoped_tree, scoped_inputs, scoped_binding}
use Rattle.lucid_scope.specs.declared.scoped.Scoped.{Scoped}
use Rattle.lucid_columns.specs.Columns.{AreColumns, IsFirstMissing}
use Rattle.lucid_top.specs.Programs.{beside}
use Rattle.lucid_report.specs.declared.refusal.Refusal.{Refusal}
use Rattle.lucid_report.specs.declared.refusal.Refusal.TheVariants as refusal
use Rattle.lucid_report.specs.declared.stop.Stop.TheVariants as stop
use Rattle.lucid_cycles.specs.declared.judgment.JudgeRefusal.{JudgeRefusal}
use Rattle.lucid_cycles.specs.Judgments.{IsJudgeRefusal}
use Rattle.lucid_report.specs.Refusals.{scan_stop, parse_stop, scope_stop, judge_stop}

-- The source isn't too long, and these are its tokens.
pub record HasTokens (source : List ℕ) (tokens : List Token) : Type 0 where
  pub short : length source ≤ most_source_bytes
  pub listed : Tokens source 0 tokens

-- The source spells the tree, which isn't too deep.
pub record Spelt (source : List ℕ) (p : PlainTree) : Type 0 where
  pub tokens : List Token
  pub scanned : HasTokens source tokens
  pub spelt : SpellsTree source tokens p
  pub shallow : depth p ≤ most_tree_depth

-- The text of a source is refused so, by the scanner or, where it has tokens, by the parser.
pub data RefusesText (source : List ℕ) (why : Refusal) : Type 0 where
  by_scan : (e : ScanRefusal) → scan_stop e ≡ stop.Refused why → Refuses source e → RefusesText source why
  by_parse : (e : ParseRefusal) (tokens : List Token) → parse_stop e ≡ stop.Refused why → HasTokens source tokens → IsSourceRefused source tokens e
      → RefusesText source why

-- The names of a tree are refused so: it is the fault at the least place.
pub record RefusesNames (p : PlainTree) (why : Refusal) : Type 0 where
  pub fault : ScopeRefusal
  pub is : scope_stop fault ≡ stop.Refused why
  pub least : IsLeastFault p fault

-- The inputs are the tree's free names, of which there are no more than nodes, and each name belongs to what is told of it.
pub record AreResolved (s : Scoped) : Type 0 where
  pub resolved : ∥ IsResolved (scoped_tree s) (scoped_inputs s) (scoped_binding s) ∥₁
  pub few : length (scoped_inputs s) ≤ length (places (scoped_tree s))

-- The judgment of a tree is refused so: by what isn't judged at the least place, or by too many names.
pub record RefusesJudging (p : PlainTree) (why : Refusal) : Type 0 where
  pub refusal : JudgeRefusal
  pub is : judge_stop refusal ≡ stop.Refused why
  pub refused : IsJudgeRefusal p refusal

-- the refusal tells the name of that number
abbrev pub IsMissing : (columns : List (List ℕ)) → (number : ℕ) → Refusal → Type 0
IsMissing columns k (refusal.NoColumn name) = slice_get columns k ≡ Some name
IsMissing columns k why = ⊥

-- The columns of a tree are refused so: by the first name that is none.
pub record RefusesColumns (p : PlainTree) (columns : List (List ℕ)) (why : Refusal) : Type 0 where
  pub number : ℕ
  pub first : IsFirstMissing p columns number
  pub is : why ≡ refusal.NoColumn first.name

-- The free names of a tree are these, in the order of their first places.
abbrev pub HasInputs : PlainTree → List (List ℕ) → Type 0
HasInputs p names = ∥ AreInputs p names ∥₁

-- No name of the tree is at fault, these are columns of it, and this is the tree with them as its subject, with its free names. It is well made,
-- and these names are no more than the places of the tree.
pub record StandsBeside (p : PlainTree) (columns : List (List ℕ)) (q : PlainTree) (inputs : List (List ℕ)) : Type 0 where
  pub no_fault : HasNoFault p
  pub free : List (List ℕ)
  pub are_free : HasInputs p free
  pub are : AreColumns p columns
  pub is : q ≡ beside p columns
  pub well_made : IsWellMade q
  pub few : length inputs ≤ length (places p)

-- The names of the tree are refused so; or they are at no fault, and its columns are.
abbrev pub RefusesBeside : PlainTree → (columns : List (List ℕ)) → (why : Refusal) → Type 0
RefusesBeside p columns why = RefusesNames p why ⊎ (HasNoFault p × ((free : List (List ℕ)) × HasInputs p free) × RefusesColumns p columns why)
