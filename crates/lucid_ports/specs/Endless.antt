-- Places without end.
use Rattle.std.specs.Prelude.{◌≡◌, ◌≢◌, ℕ, ◌+◌, ◌%◌, List, length, drop, Option, None, Some, unwrap_or}

-- where a place stands: in a file's bytes or, with none, in the piece that comes again and again
pub record Spot : Type 0 where
  pub source : Option (List ℕ)
  pub position : ℕ

-- a position in a file, or in a piece of that length, which begins anew behind its end
abbrev pub position_in : {X : Type 0} → ℕ → Option X → ℕ → ℕ
position_in turn None position = position % turn
position_in turn (Some file) position = position

-- the bytes that come next, to the end of the file or of this turn of the piece
abbrev pub next_bytes : List ℕ → Spot → List ℕ
next_bytes piece spot = drop spot.position (unwrap_or spot.source piece)

-- where a place stands n bytes later
abbrev pub moved : List ℕ → ℕ → Spot → Spot
moved piece n spot = record { source = spot.source; position = position_in (length piece) spot.source (spot.position + n) }

-- every place but one stands where it stood
abbrev pub OthersStay : ℕ → (ℕ → Option Spot) → (ℕ → Option Spot) → Type 0
OthersStay number old new = (k : ℕ) → k ≢ number → new k ≡ old k
