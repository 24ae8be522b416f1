-- The tokens of a source: past blanks and comments the longest text that is a token, and so on to the end. The rule is this
-- language's own.
use Rattle.std.specs.Prelude.{ℕ, ◌+◌, ◌≤◌, ◌<◌, List, [], ◌∷◌, length, take, drop, Bool, ◌&&◌, ◌==◌, if◌then◌else◌}
use Rattle.lucid_value.specs.Reading.{is_blank}
use Rattle.lucid_scan.specs.declared.token.TokenKind.{TokenKind}
use Rattle.lucid_scan.specs.declared.token.Token.{Token}
use Rattle.lucid_scan.specs.Texts.{first_passes, IsTokenText}

-- The first n bytes are a token of the kind.
pub record Stands (bytes : List ℕ) (k : TokenKind) (n : ℕ) : Type 0 where
  pub within : n ≤ length bytes
  pub some : 0 < n
  pub text : IsTokenText k (take n bytes) (drop n bytes)

-- They are, and no token that the bytes begin with is longer.
pub record IsLongest (bytes : List ℕ) (k : TokenKind) (n : ℕ) : Type 0 where
  pub stands : Stands bytes k n
  pub longest : (j : TokenKind) (m : ℕ) → Stands bytes j m → m ≤ n

-- The bytes begin with no token.
abbrev pub NoneStands : List ℕ → Type 0
NoneStands bytes = (k : TokenKind) (n : ℕ) → Stands bytes k n → ⊥

-- the byte `/`
abbrev pub is_slash : ℕ → Bool
is_slash b = b == 47

-- How many bytes of blanks and comments the bytes begin with. A comment goes from `//` to the end of its line or of the source.
abbrev mutual
  pub gap : List ℕ → ℕ
  gap [] = 0
  gap (b ∷ bs) = if is_blank b then gap bs + 1 else if is_slash b && first_passes is_slash bs then comment bs + 1 else 0

  pub comment : List ℕ → ℕ
  comment [] = 0
  comment (b ∷ bs) = if b == 10 then gap bs + 1 else comment bs + 1

-- what is behind the blanks and comments
abbrev pub past_gap : List ℕ → List ℕ
past_gap bytes = drop (gap bytes) bytes

-- the token of this kind and span
abbrev pub token : TokenKind → ℕ → ℕ → Token
token k from to = record { kind = k; from = from; to = to }

-- The tokens of the bytes that stand at a place of the source, to the end: each is the longest, past the blanks and comments in
-- front of it, and the next are those of the bytes behind it.
pub data Tokens : List ℕ → ℕ → List Token → Type 0 where
  tokens_end : {bytes : List ℕ} {at : ℕ} → length bytes ≤ gap bytes → Tokens bytes at []
  tokens_next : {bytes : List ℕ} {at : ℕ} {ts : List Token} (k : TokenKind) (n : ℕ) → IsLongest (past_gap bytes) k n
      → Tokens (drop n (past_gap bytes)) ((at + gap bytes) + n) ts
      → Tokens bytes at (token k (at + gap bytes) ((at + gap bytes) + n) ∷ ts)

-- The same as far as there are tokens: behind them, at the second place, the bytes `rest` stand and begin with none.
pub data Stuck : List ℕ → ℕ → ℕ → List ℕ → Type 0 where
  stuck_here : {bytes : List ℕ} {at : ℕ} → gap bytes < length bytes → NoneStands (past_gap bytes) → Stuck bytes at (at + gap bytes) (past_gap bytes)
  stuck_next : {bytes rest : List ℕ} {at place : ℕ} (k : TokenKind) (n : ℕ) → IsLongest (past_gap bytes) k n
      → Stuck (drop n (past_gap bytes)) ((at + gap bytes) + n) place rest
      → Stuck bytes at place rest
