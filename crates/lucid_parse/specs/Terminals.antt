-- The terminals of a source: what each token stands for, with its place.
use Rattle.std.specs.Prelude.{◌≡◌, ℕ, List, [], ◌∷◌, ◌++◌, Option, Some, None, codes, pos, true, false, slice_range, if◌then◌else◌}
use Rattle.lucid_value.specs.Plain.{int, truth, word as word_value, text as string, list, eod, fault, Items, no_items, same_bytes}
use Rattle.lucid_value.specs.Reading.{number_of, Reads}
use Rattle.std.specs.Option.{option_or, option_map}
use Rattle.lucid_parse.specs.declared.operator.Operator.TheVariants.{Stream}
use Rattle.lucid_tree.specs.declared.form.Form.TheVariants.{Whenever}
use Rattle.lucid_parse.specs.Operators.{spelled}
use Rattle.lucid_scan.specs.declared.token.TokenKind.{TokenKind}
use Rattle.lucid_scan.specs.declared.token.TokenKind.TheVariants as kind
use Rattle.lucid_scan.specs.declared.token.Token.{Token}
use Rattle.lucid_parse.specs.declared.terminal.Terminal.TheVariants as terminal
use Rattle.lucid_parse.specs.Grammar.{PlainTerminal, PlacedTerminal, terminal_at}

-- The marks and the reserved words that stand for no operator, each with its terminal; `-`, which stands for two; and `wvr`, which stands for an
-- operator with a spelling of its own.
unfoldable pub form_terminals : List (List ℕ × PlainTerminal)
form_terminals =
    (codes "(", terminal.Open) ∷ (codes ")", terminal.Close) ∷ (codes ",", terminal.Comma) ∷ (codes ";", terminal.Semicolon) ∷ (codes "=", terminal.Equals)
    ∷ (codes "[]", terminal.Const (list no_items)) ∷ (codes "-", terminal.Minus) ∷ (codes "where", terminal.Where) ∷ (codes "end", terminal.End)
    ∷ (codes "is", terminal.Is) ∷ (codes "current", terminal.Current) ∷ (codes "if", terminal.If) ∷ (codes "then", terminal.Then)
    ∷ (codes "else", terminal.Else) ∷ (codes "fi", terminal.Fi) ∷ (codes "wvr", terminal.Operator (Stream Whenever)) ∷ (codes "true", terminal.Const (truth true))
    ∷ (codes "false", terminal.Const (truth false)) ∷ (codes "eod", terminal.Const eod) ∷ (codes "error", terminal.Const fault) ∷ []

-- what stands beside the text in the first pair that has it
abbrev pub terminal_in : {A : Type 0} → List ℕ → List (List ℕ × A) → Option A
terminal_in text [] = None
terminal_in text (pair ∷ pairs) = if same_bytes text pair.0 then Some pair.1 else terminal_in text pairs

-- The terminal of a mark or of a reserved word: one of these, or the operator that the text spells.
abbrev pub fixed_terminal : List ℕ → Option PlainTerminal
fixed_terminal text = option_or (terminal_in text form_terminals) (option_map terminal.Operator (spelled text))

-- A token of this kind and this text stands for the terminal.
abbrev pub StandsFor : TokenKind → List ℕ → PlainTerminal → Type 0
StandsFor kind.Name bytes which = which ≡ terminal.Name bytes
StandsFor kind.Int bytes which = which ≡ terminal.Const (int (pos (number_of bytes)))
StandsFor kind.Quoted bytes which = (inside : List ℕ) × (bytes ≡ 34 ∷ (inside ++ 34 ∷ [])) × (which ≡ terminal.Const (word_value inside))
StandsFor kind.Text bytes which = (inside : List ℕ) × (bytes ≡ 96 ∷ (inside ++ 39 ∷ [])) × (which ≡ terminal.Const (string inside))
StandsFor kind.ListText bytes which = (items : Items) × Reads bytes (list items) × (which ≡ terminal.Const (list items))
StandsFor kind.Fixed bytes which = fixed_terminal bytes ≡ Some which

-- the bytes of a token
abbrev pub bytes_of : List ℕ → Token → List ℕ
bytes_of source token = slice_range source token.from token.to

-- The terminals of the source's tokens, each at the place of its token's first byte.
pub data Terminals (source : List ℕ) : List Token → List PlacedTerminal → Type 0 where
  terminals_none : Terminals source [] []
  terminals_next : {ts : List Token} {ws : List PlacedTerminal} (token : Token) (terminal : PlainTerminal) → StandsFor token.kind (bytes_of source token) terminal → Terminals source ts ws
      → Terminals source (token ∷ ts) (terminal_at terminal token.from ∷ ws)
