-- What the parser answers for the tokens of a source.
use Rattle.std.specs.Prelude.{◌≡◌, ℕ, List, length}
use Rattle.lucid_tree.specs.Tree.{PlainTree}
use Rattle.lucid_scan.specs.declared.token.Token.{Token}
use Rattle.lucid_scan.specs.declared.token.TokenKind.{TokenKind}
use Rattle.lucid_scan.specs.Texts.{IsTokenText}
use Rattle.lucid_value.specs.Plain.{PlainValue}
use Rattle.lucid_value.specs.Reading.{Reads}
use Rattle.lucid_parse.specs.declared.refusal.ParseRefusal.{ParseRefusal}
use Rattle.lucid_parse.specs.declared.refusal.ParseRefusal.TheVariants as refusal
use Rattle.lucid_parse.specs.Grammar.{PlacedTerminal, Spells}
use Rattle.lucid_parse.specs.Terminals.{Terminals}
use Rattle.lucid_parse.specs.Refused.{AreRefused}

-- The tokens spell the tree, as a program: their terminals do, at level 0.
abbrev pub SpellsTree : (source : List ℕ) → List Token → PlainTree → Type 0
SpellsTree source tokens tree = (terminals : List PlacedTerminal) × Terminals source tokens terminals × Spells 0 terminals tree

-- The tokens are refused so: their terminals are. For want of memory any tokens may be refused.
abbrev pub IsSourceRefused : (source : List ℕ) → List Token → ParseRefusal → Type 0
IsSourceRefused source tokens (refusal.Syntax at) = (terminals : List PlacedTerminal) × Terminals source tokens terminals × AreRefused (refusal.Syntax at) terminals (length source)
IsSourceRefused source tokens (refusal.TooNested at) = (terminals : List PlacedTerminal) × Terminals source tokens terminals × AreRefused (refusal.TooNested at) terminals (length source)
IsSourceRefused source tokens refusal.NoMemory = Unit {0}

-- The bytes are those of a token of the kind, whatever follows them.
abbrev pub IsTokenOf : TokenKind → List ℕ → Type 0
IsTokenOf kind bytes = (after : List ℕ) × IsTokenText kind bytes after

-- The bytes read as no other value.
abbrev pub IsReading : List ℕ → PlainValue → Type 0
IsReading bytes value = (other : PlainValue) → Reads bytes other → value ≡ other
