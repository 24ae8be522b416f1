-- What stands about a place: the token before it, the one that begins there and the next one, each none where there is none.
use Rattle.std.specs.Prelude.{ℕ, zero, suc, List, [], take, drop, slice_range, Option, None, Some, min, nat_lt}
use Rattle.std.specs.List.{prefix_len, slice_get}
use Rattle.lucid_scan.specs.declared.token.Token.{Token}
use Rattle.lucid_explain_places.specs.declared.around.Around.{Around}
use Rattle.lucid_explain_places.specs.Positions.{last_line}

-- the texts of the three; what stands before the first of them in its line, and that itself; and what stands between that and the place: blanks and comments
pub record PlainAround : Type 0 where
  pub line : List ℕ
  pub before : List ℕ
  pub gap : List ℕ
  pub read : List ℕ
  pub after : List ℕ

abbrev pub plain_around : Around → PlainAround
plain_around a = record { line = a.line.now; before = a.before.now; gap = a.gap.now; read = a.read.now; after = a.after.now }

-- how many tokens begin before the place
abbrev pub count_before : List Token → (at : ℕ) → ℕ
count_before tokens at = prefix_len (λ t. nat_lt t.from at) tokens

-- the text of a token, and where it ends; nothing and 0 where there is none
abbrev pub text_of : (source : List ℕ) → Option Token → List ℕ
text_of source None = []
text_of source (Some t) = slice_range source t.from t.to

abbrev pub end_of : Option Token → ℕ
end_of None = 0
end_of (Some t) = t.to

-- the last of so many tokens
abbrev pub last_of : List Token → (count : ℕ) → Option Token
last_of tokens zero = None
last_of tokens (suc n) = slice_get tokens n

-- what stands between a token and the place
abbrev pub gap_behind : (source : List ℕ) → (at : ℕ) → Option Token → List ℕ
gap_behind source at last = drop (min (end_of last) at) (take at source)

-- what stands in the line of a token before the place, up to its end
abbrev pub line_to : (source : List ℕ) → (at : ℕ) → Option Token → List ℕ
line_to source at last = last_line (take (min (end_of last) at) source)

-- what stands about a place before which so many tokens begin
abbrev pub around_of : (source : List ℕ) → List Token → (at count : ℕ) → PlainAround
around_of source tokens at count = record {
  line = line_to source at (last_of tokens count);
  before = text_of source (last_of tokens count);
  gap = gap_behind source at (last_of tokens count);
  read = text_of source (slice_get tokens count);
  after = text_of source (slice_get tokens (suc count));
}

abbrev pub around_at : (source : List ℕ) → List Token → (at : ℕ) → PlainAround
around_at source tokens at = around_of source tokens at (count_before tokens at)
