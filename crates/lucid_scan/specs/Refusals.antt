-- When a source is refused, and where. The rule is this language's own.
use Rattle.std.specs.Prelude.{◌≡◌, ℕ, ◌≤◌, ◌<◌, List, length, Bool, ◌||◌, nat_eq, codes, if◌then◌else◌}
use Rattle.std.specs.List.{starts_with}
use Rattle.std.specs.Char.{is_ascii_digit}
use Rattle.lucid_scan.specs.declared.refusal.ScanRefusal.{ScanRefusal}
use Rattle.lucid_scan.specs.declared.refusal.ScanRefusal.TheVariants as refusal
use Rattle.lucid_scan.specs.Texts.{first_passes}
use Rattle.lucid_scan.specs.Tokens.{Stuck}

-- the most bytes of a source; a longer one is refused
abbrev pub most_source_bytes : ℕ
most_source_bytes = 1048576

-- the bytes begin as a string or a list does
abbrev pub opens_text : List ℕ → Bool
opens_text bytes = starts_with nat_eq bytes (codes "`") || starts_with nat_eq bytes (codes "[%")

-- The refusal at a place where the rest of the source begins with no token: it has a number that is too big where it begins with
-- a digit, a string or list that does not end where it opens one, and else a byte that no token begins with.
abbrev pub refusal_of : List ℕ → ℕ → ScanRefusal
refusal_of rest at =
    if first_passes is_ascii_digit rest then refusal.BigNumber at
    else if opens_text rest then refusal.OpenText at
    else refusal.BadByte at

-- Behind the source's first tokens stand bytes that begin with none, and they are refused so.
abbrev pub IsStuckBy : List ℕ → ScanRefusal → Type 0
IsStuckBy source why = (length source ≤ most_source_bytes) × ((at : ℕ) × (rest : List ℕ) × Stuck source 0 at rest × (why ≡ refusal_of rest at))

-- The source is refused so. For want of memory any source may be.
abbrev pub Refuses : List ℕ → ScanRefusal → Type 0
Refuses source refusal.TooLong = most_source_bytes < length source
Refuses source (refusal.BadByte at) = IsStuckBy source (refusal.BadByte at)
Refuses source (refusal.OpenText at) = IsStuckBy source (refusal.OpenText at)
Refuses source (refusal.BigNumber at) = IsStuckBy source (refusal.BigNumber at)
Refuses source refusal.NoMemory = Unit {0}
