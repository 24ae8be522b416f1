-- The tokens of a source from a place on, and the terminals that they stand for.
use Rattle.lucid_top.proofs.Common.{◌≡◌, ℕ, ◌+◌, List, ◌∷◌, ◌++◌, length, drop, true, sym, ◌∙◌, ap, subst, Token, TextsAreLongest, PlacedTerminal, Terminals, ◌||◌, slice_range, drop-append_seam}
use Rattle.lucid_scan.specs.declared.token.TokenKind.{TokenKind}
use Rattle.lucid_scan.specs.Tokens.{IsLongest, gap, past_gap, token, Tokens, tokens_next}
use Rattle.lucid_parse.specs.Grammar.{PlainTerminal, terminal_at}
use Rattle.lucid_parse.specs.Terminals.{terminals_next, StandsFor}
use Rattle.lucid_print.proofs.Terminals.{terminal_text, is_open}
use Rattle.lucid_print.proofs.Goods.{Good, among, stoppers}

-- the tokens from a place of the source on, and their terminals
pub record ReadFrom (source bytes : List ℕ) (at : ℕ) (words : List PlacedTerminal) : Type 0 where
  pub tokens : List Token
  pub are_tokens : Tokens bytes at tokens
  pub are_words : Terminals source tokens words

next_by : (bytes : List ℕ) (at g n : ℕ) (k : TokenKind) (here rest : List ℕ) (ts : List Token) → gap bytes ≡ g → drop g bytes ≡ here → IsLongest here k n
    → drop n here ≡ rest
    → Tokens rest ((at + g) + n) ts → Tokens bytes at (token k (at + g) ((at + g) + n) ∷ ts)
next_by bytes at g n k here rest ts e f l d more =
    let there : past_gap bytes ≡ here = ap (λ i. drop i bytes) e ∙ f in
    subst (λ h. Tokens bytes at (token k (at + h) ((at + h) + n) ∷ ts)) e
    (tokens_next k n (subst (λ x. IsLongest x k n) (sym there) l)
    (subst (λ x. Tokens x ((at + gap bytes) + n) ts) (sym (ap (drop n) there ∙ d)) (subst (λ i. Tokens rest ((at + i) + n) ts) (sym e) more)))

module _ (source : List ℕ) (longest : TextsAreLongest) where
  -- one terminal in front, behind a gap and before a byte that ends it
  pub step : (bytes : List ℕ) (at g : ℕ) (s : PlainTerminal) → Good s → (b : ℕ) (after : List ℕ) (ws : List PlacedTerminal) → (is_open s || among b stoppers) ≡ true
      → gap bytes ≡ g → drop g bytes ≡ terminal_text s ++ b ∷ after
      → slice_range source (at + g) ((at + g) + length (terminal_text s)) ≡ terminal_text s
      → ReadFrom source (b ∷ after) ((at + g) + length (terminal_text s)) ws → ReadFrom source bytes at (terminal_at s (at + g) ∷ ws)
  step bytes at g s good b after ws fits e f is r =
      let n : ℕ = length (terminal_text s) in
      let long : IsLongest (terminal_text s ++ b ∷ after) good.kind n =
      longest good.kind (terminal_text s) (b ∷ after) (good.token b after fits) (good.stops b after fits) in
      record {
        tokens = token good.kind (at + g) ((at + g) + n) ∷ r.tokens;
        are_tokens = next_by bytes at g n good.kind (terminal_text s ++ b ∷ after) (b ∷ after) r.tokens e f long
            (drop-append_seam (terminal_text s) (b ∷ after)) r.are_tokens;
        are_words = terminals_next (token good.kind (at + g) ((at + g) + n)) s (subst (λ x. StandsFor good.kind x s) (sym is) good.stands) r.are_words;
      }
