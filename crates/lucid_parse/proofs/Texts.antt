-- What the bytes of tokens read as, and the terminals of tokens.
use Rattle.lucid_parse.proofs.Common.{◌≡◌, ℕ, suc, ◌+◌, ◌<◌, ◌≤◌, List, [], ◌∷◌, ◌++◌, length, take, get_or, Option, Some, true, refl, sym, ◌∙◌, ap, subst, arith, ltb-true, and_parts, take_more, map-append, PlainValue, Token, TerminalAt, placed_of, terminals_of, PlainTerminal, PlacedTerminal, terminal_at, Terminals, length-drop, pos}
use Rattle.std.proofs.Common.{◌-◌}
use Rattle.lucid_lists.proofs.Lists.{same_between}
use Rattle.lucid_value.specs.Plain.{int, word as word_value, text, list, is_text, is_light}
use Rattle.lucid_value.specs.Reading.{number_of, Reads, ReadsLine, ReadsAsNone}
use Rattle.lucid_value.specs.Reading
use Rattle.lucid_value.specs.Laws.{OneReading, OneLineReading}
use Rattle.lucid_scan.specs.declared.token.TokenKind.TheVariants as kind
use Rattle.lucid_scan.specs.declared.token.TokenKind.{TokenKind}
use Rattle.lucid_scan.specs.Texts.{IsTokenText, is_text_value}
use Rattle.lucid_scan.specs.Laws.{IsInOrder, StandsIn, TokensStand}
use Rattle.lucid_scan.specs.Tokens.{Tokens}
use Rattle.lucid_parse.specs.Views.{plain_terminal}
use Rattle.lucid_parse.specs.declared.terminal.Terminal.TheVariants as terminal
use Rattle.lucid_parse.specs.Terminals.{StandsFor, bytes_of}
use Rattle.lucid_parse.specs.Spelled.{IsReading, IsTokenOf}
use Rattle.lucid_parse.proofs.WellMade.{Rises, rises_none, rises_next, lower}

int_reads : (bytes after : List ℕ) → IsTokenText kind.Int bytes after → Reads bytes (int (pos (number_of bytes)))
int_reads bytes after h = record { denotes = Reading.denotes_number bytes h.0 h.2; light = omega arith; flat = omega arith }

light_length : (bytes : List ℕ) → is_light bytes ≡ true → length bytes + 1 ≤ 65536
light_length bytes h = let less : length bytes < 65536 = ltb-true (length bytes) 65536 h in omega (arith, less)

text_reads : (inside : List ℕ) → is_text_value inside ≡ true → Reads (96 ∷ (inside ++ 39 ∷ [])) (text inside)
text_reads inside h =
    let two = and_parts (is_text inside) (is_light inside) h in
    record { denotes = Reading.denotes_text inside two.0; light = light_length inside two.1; flat = omega arith }

-- the bytes of a token of these kinds read as a value
pub int_has : (bytes : List ℕ) → IsTokenOf kind.Int bytes → (v : PlainValue) × Reads bytes v
int_has bytes h = (int (pos (number_of bytes)), int_reads bytes h.0 h.1)

pub text_has : (bytes : List ℕ) → IsTokenOf kind.Text bytes → (v : PlainValue) × Reads bytes v
text_has bytes h = (text h.1.0, subst (λ b. Reads b (text h.1.0)) (sym h.1.1) (text_reads h.1.0 h.1.2))

-- and it stands for that value
pub int_stands : (bytes : List ℕ) (v : PlainValue) → IsTokenOf kind.Int bytes → IsReading bytes v → StandsFor kind.Int bytes (terminal.Const v)
int_stands bytes v h r = ap terminal.Const (r _ (int_reads bytes h.0 h.1))

pub text_stands : (bytes : List ℕ) (v : PlainValue) → IsTokenOf kind.Text bytes → IsReading bytes v → StandsFor kind.Text bytes (terminal.Const v)
text_stands bytes v h r = (h.1.0, h.1.1, ap terminal.Const (r (text h.1.0) (subst (λ b. Reads b (text h.1.0)) (sym h.1.1) (text_reads h.1.0 h.1.2))))

-- bytes with no blank around them, as a line
as_line : (bytes : List ℕ) (v : PlainValue) → Reads bytes v → ReadsLine bytes v
as_line bytes v r = record { before = []; bytes = bytes; after = []; parts = sym (append_nil bytes); blank_before = refl; blank_after = refl; reads = r }
  where
    append_nil : (xs : List ℕ) → [] ++ (xs ++ []) ≡ xs
    append_nil [] = refl
    append_nil (x ∷ xs) = ap (λ l. x ∷ l) (append_nil xs)

pub reading_of : (bytes : List ℕ) (v : PlainValue) → OneLineReading → ReadsLine bytes v → IsReading bytes v
reading_of bytes v law r w s = law bytes v w r (as_line bytes w s)

pub never_none : (bytes : List ℕ) → ((v : PlainValue) × Reads bytes v) → ReadsAsNone bytes → ⊥
never_none bytes h none = none h.0 (as_line bytes h.0 h.1)

-- terminals of one token more
pub terminals-push : {source : List ℕ} {ts : List Token} {ws : List PlacedTerminal} → Terminals source ts ws → (t : Token) (terminal : PlainTerminal)
    → StandsFor t.kind (bytes_of source t) terminal
    → Terminals source (ts ++ t ∷ []) (ws ++ terminal_at terminal t.from ∷ [])
terminals-push Terminals.terminals_none t terminal h = Terminals.terminals_next t terminal h Terminals.terminals_none
terminals-push (Terminals.terminals_next u r k more) t terminal h = Terminals.terminals_next u r k (terminals-push more t terminal h)

-- one token of a source more
pub terminals_more : (source : List ℕ) (ts : List Token) (i : ℕ) (d : Token) (terminals more : List TerminalAt) (s : TerminalAt)
    → Terminals source (take i ts) (terminals_of terminals) → i < length ts
    → more ≡ terminals ++ s ∷ [] → s.at ≡ (get_or ts i d).from → StandsFor (get_or ts i d).kind (bytes_of source (get_or ts i d)) (plain_terminal s.terminal)
    → Terminals source (take (i + 1) ts) (terminals_of more)
terminals_more source ts i d terminals more s w h e at k =
    subst (λ l. Terminals source l (terminals_of more)) (sym (take_more ts i d h))
    (subst (λ l. Terminals source (take i ts ++ get_or ts i d ∷ []) l)
    (ap (λ p. terminals_of terminals ++ terminal_at (plain_terminal s.terminal) p ∷ []) (sym at) ∙ sym (map-append placed_of terminals (s ∷ []))
    ∙ ap terminals_of (sym e))
    (terminals-push w (get_or ts i d) (plain_terminal s.terminal) k))

pub no_terminals : (source : List ℕ) (terminals : List TerminalAt) → terminals ≡ [] → Terminals source [] (terminals_of terminals)
no_terminals source terminals e = subst (λ l. Terminals source [] (terminals_of l)) (sym e) Terminals.terminals_none

pub terminals_again : (source : List ℕ) (ts : List Token) (terminals again : List TerminalAt) → Terminals source ts (terminals_of terminals) → again ≡ terminals
    → Terminals source ts (terminals_of again)
terminals_again source ts terminals again w e = subst (λ l. Terminals source ts (terminals_of l)) (sym e) w

-- a token's span lies within the source
module _ (source : List ℕ) (ts : List Token) (tokens : Tokens source 0 ts) (law : TokensStand) (i : ℕ) (d : Token) (h : i < length ts) where
  stands_there : StandsIn source (get_or ts i d)
  stands_there = law source ts tokens i d h

  pub starts_before : (get_or ts i d).from ≤ (get_or ts i d).to
  starts_before = omega (arith, stands_there.some)

  pub ends_within : (get_or ts i d).to ≤ length source
  ends_within = omega (arith, stands_there.some, stands_there.within, length-drop (get_or ts i d).from source)

-- terminals stand at rising places, as many as the tokens
pub terminals_rise : {source : List ℕ} {ts : List Token} {ws : List PlacedTerminal} → Terminals source ts ws → (low limit : ℕ) → IsInOrder low ts limit
    → Rises low ws
terminals_rise Terminals.terminals_none low limit h = rises_none low
terminals_rise (Terminals.terminals_next {ws = ws} t s k more) low limit h =
    rises_next (terminal_at s t.from) ws low h.0 (lower ws t.to (t.from + 1) (omega (arith, h.1)) (terminals_rise more t.to limit h.2))

pub terminals_length : {source : List ℕ} {ts : List Token} {ws : List PlacedTerminal} → Terminals source ts ws → length ws ≡ length ts
terminals_length Terminals.terminals_none = refl
terminals_length (Terminals.terminals_next t s k more) = ap suc (terminals_length more)

-- a token stands for one terminal
stands-one : OneReading → (k : TokenKind) (bytes : List ℕ) (one other : PlainTerminal) → StandsFor k bytes one → StandsFor k bytes other → one ≡ other
stands-one law kind.Name bytes one other g h = g ∙ sym h
stands-one law kind.Int bytes one other g h = g ∙ sym h
stands-one law kind.Quoted bytes one other g h = g.2 ∙ ap (λ l. terminal.Const (word_value l)) (same_between g.0 h.0 34 34 (sym g.1 ∙ h.1)) ∙ sym h.2
stands-one law kind.Text bytes one other g h = g.2 ∙ ap (λ l. terminal.Const (text l)) (same_between g.0 h.0 96 39 (sym g.1 ∙ h.1)) ∙ sym h.2
stands-one law kind.ListText bytes one other g h = g.2 ∙ ap terminal.Const (law bytes (list g.0) (list h.0) g.1 h.1) ∙ sym h.2
stands-one law kind.Fixed bytes one other g h = let same : ◌≡◌ {A = Option PlainTerminal} (Some one) (Some other) = sym g ∙ h in cc

pub terminals-one : OneReading → {source : List ℕ} {ts : List Token} {us ws : List PlacedTerminal} → Terminals source ts us → Terminals source ts ws → us ≡ ws
terminals-one law Terminals.terminals_none Terminals.terminals_none = refl
terminals-one law (Terminals.terminals_next {ws = us} t r g more) (Terminals.terminals_next {ws = ws} u s h again) =
    ap (λ x. terminal_at x t.from ∷ us) (stands-one law t.kind _ r s g h) ∙ ap (λ l. terminal_at s t.from ∷ l) (terminals-one law more again)
