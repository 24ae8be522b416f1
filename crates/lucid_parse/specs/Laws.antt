-- What holds of all terminals and tokens.
use Rattle.std.specs.Prelude.{◌≡◌, ◌≢◌, ℕ, ◌≤◌, List, length, true, ◌||◌}
use Rattle.lucid_value.specs.Names.{is_reserved}
use Rattle.lucid_ops.specs.declared.op.Op.{Op}
use Rattle.lucid_ops.specs.Rows.{operator_row}
use Rattle.lucid_tree.specs.Tree.{PlainTree}
use Rattle.lucid_tree.specs.WellMade.{most_tree_depth, depth, places, IsWellMade}
use Rattle.lucid_scan.specs.declared.token.Token.{Token}
use Rattle.lucid_scan.specs.Refusals.{most_source_bytes}
use Rattle.lucid_scan.specs.Texts.{is_mark}
use Rattle.lucid_scan.specs.Tokens.{Tokens}
use Rattle.lucid_parse.specs.declared.refusal.ParseRefusal.{ParseRefusal}
use Rattle.lucid_parse.specs.declared.refusal.ParseRefusal.TheVariants as refusal
use Rattle.lucid_parse.specs.Grammar.{PlacedTerminal, Spells}
use Rattle.lucid_parse.specs.Terminals.{Terminals}
use Rattle.lucid_parse.specs.Verdict.{IsFault}
use Rattle.lucid_parse.specs.Spelled.{SpellsTree, IsSourceRefused}

-- Terminals spell at most one tree.
abbrev pub TerminalsSpellOneTree : Type 0
TerminalsSpellOneTree = (terminals : List PlacedTerminal) (tree other : PlainTree) → Spells 0 terminals tree → Spells 0 terminals other → tree ≡ other

-- Terminals have at most one fault.
abbrev pub FaultIsUnique : Type 0
FaultIsUnique = (terminals : List PlacedTerminal) (end at other : ℕ) → IsFault terminals end at → IsFault terminals end other → at ≡ other

-- Tokens have at most one list of terminals.
abbrev pub TerminalsAreUnique : Type 0
TerminalsAreUnique =
    (source : List ℕ) (tokens : List Token) (terminals others : List PlacedTerminal) → Terminals source tokens terminals → Terminals source tokens others → terminals ≡ others

-- Tokens spell at most one tree.
abbrev pub TokensSpellOneTree : Type 0
TokensSpellOneTree = (source : List ℕ) (tokens : List Token) (tree other : PlainTree) → SpellsTree source tokens tree → SpellsTree source tokens other → tree ≡ other

-- The tree that the tokens of a source spell is well made, where the source isn't too long.
abbrev pub SpelledTreesAreWellMade : Type 0
SpelledTreesAreWellMade =
    (source : List ℕ) (tokens : List Token) (tree : PlainTree) → length source ≤ most_source_bytes → Tokens source 0 tokens → SpellsTree source tokens tree → IsWellMade tree

-- And it has at most as many places as the source has bytes.
abbrev pub SpelledPlacesAreFew : Type 0
SpelledPlacesAreFew =
    (source : List ℕ) (tokens : List Token) (tree : PlainTree) → Tokens source 0 tokens → SpellsTree source tokens tree → length (places tree) ≤ length source

-- Want of memory apart, tokens have at most one refusal.
abbrev pub TokensHaveOneRefusal : Type 0
TokensHaveOneRefusal =
    (source : List ℕ) (tokens : List Token) (why other : ParseRefusal) → IsSourceRefused source tokens why → IsSourceRefused source tokens other → why ≢ refusal.NoMemory → other ≢ refusal.NoMemory
    → why ≡ other

-- Tokens that spell a tree that isn't too deep are refused for want of memory alone.
abbrev pub SpelledTokensAreNotRefused : Type 0
SpelledTokensAreNotRefused =
    (source : List ℕ) (tokens : List Token) (tree : PlainTree) (why : ParseRefusal) → SpellsTree source tokens tree → depth tree ≤ most_tree_depth → IsSourceRefused source tokens why → why ≡ refusal.NoMemory

-- The spelling of each data operator is a token: a mark or a reserved word.
abbrev pub OperatorsAreTokens : Type 0
OperatorsAreTokens = (operator : Op) → (is_mark (operator_row operator).spelling || is_reserved (operator_row operator).spelling) ≡ true
