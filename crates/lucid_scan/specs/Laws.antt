-- What holds of the tokens and the refusals of every source.
use Rattle.std.specs.Prelude.{◌≡◌, ◌≢◌, ℕ, ◌-◌, ◌≤◌, ◌<◌, ◌⊎◌, List, [], ◌∷◌, ◌++◌, length, take, drop, true, false, All}
use Rattle.lucid_scan.specs.declared.token.Token.{Token}
use Rattle.lucid_scan.specs.declared.refusal.ScanRefusal.{ScanRefusal}
use Rattle.lucid_scan.specs.declared.refusal.ScanRefusal.TheVariants as refusal
use Rattle.lucid_value.specs.Names.{is_name_byte, is_reserved}
use Rattle.lucid_scan.specs.declared.token.TokenKind.{TokenKind}
use Rattle.lucid_scan.specs.declared.token.TokenKind.TheVariants as kind
use Rattle.lucid_scan.specs.Texts.{is_mark, first_passes, IsTokenText}
use Rattle.lucid_scan.specs.Tokens.{Stands, IsLongest, gap, Tokens}
use Rattle.lucid_scan.specs.Refusals.{Refuses, most_source_bytes}

-- A source has at most one list of tokens.
abbrev pub TokensAreUnique : Type 0
TokensAreUnique = (source : List ℕ) (ts us : List Token) → Tokens source 0 ts → Tokens source 0 us → ts ≡ us

-- A source that has tokens and isn't too long is refused for want of memory alone.
abbrev pub TokensAreNotRefused : Type 0
TokensAreNotRefused =
    (source : List ℕ) (ts : List Token) (why : ScanRefusal) → Tokens source 0 ts → length source ≤ most_source_bytes → Refuses source why → why ≡ refusal.NoMemory

-- Want of memory apart, a source has at most one refusal.
abbrev pub RefusalIsUnique : Type 0
RefusalIsUnique =
    (source : List ℕ) (why other : ScanRefusal) → Refuses source why → Refuses source other → why ≢ refusal.NoMemory → other ≢ refusal.NoMemory → why ≡ other

-- Each token has a byte or more and begins where the one before it ends or behind it, and the last ends at the limit or before it.
abbrev pub IsInOrder : ℕ → List Token → ℕ → Type 0
IsInOrder low [] limit = low ≤ limit
IsInOrder low (t ∷ ts) limit = (low ≤ t.from) × (t.from < t.to) × IsInOrder t.to ts limit

-- The spans of tokens are in order and lie within the source.
abbrev pub TokensAreInOrder : Type 0
TokensAreInOrder = (source : List ℕ) (ts : List Token) → Tokens source 0 ts → IsInOrder 0 ts (length source)

-- There are at most as many tokens as bytes.
abbrev pub TokensAreFew : Type 0
TokensAreFew = (source : List ℕ) (ts : List Token) → Tokens source 0 ts → length ts ≤ length source

-- The token's span of the source is a text of its kind.
abbrev pub StandsIn : List ℕ → Token → Type 0
StandsIn source t = Stands (drop t.from source) t.kind (t.to - t.from)

-- Each token of a source stands in it.
abbrev pub TokensStand : Type 0
TokensStand = (source : List ℕ) (ts : List Token) → Tokens source 0 ts → All (StandsIn source) ts

-- No byte that comes after the text makes a longer token of it.
abbrev pub Stops : TokenKind → List ℕ → List ℕ → Type 0
Stops kind.Name text after = first_passes is_name_byte after ≡ false
Stops kind.Int text after = Unit {0}
Stops kind.Quoted text after = Unit {0}
Stops kind.Text text after = Unit {0}
Stops kind.ListText text after = Unit {0}
Stops kind.Fixed text after =
    ((is_reserved text ≡ true) × (first_passes is_name_byte after ≡ false)) ⊎ ((is_mark text ≡ true) × (is_mark (take 2 (text ++ after)) ≡ true → length text ≡ 2))

-- A token's text that stops is the longest token where it stands.
abbrev pub TextsAreLongest : Type 0
TextsAreLongest = (k : TokenKind) (text after : List ℕ) → IsTokenText k text after → Stops k text after → IsLongest (text ++ after) k (length text)

-- No token begins with a blank or a comment.
abbrev pub TextsBeginNoGap : Type 0
TextsBeginNoGap = (k : TokenKind) (text after : List ℕ) → IsTokenText k text after → gap (text ++ after) ≡ 0
