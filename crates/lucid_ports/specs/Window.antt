-- What a window shows.
use Rattle.std.specs.Prelude.{ℕ, List}

-- A window: the bytes shown, which were read and not yet consumed, and how many were consumed of the piece last shown.
pub record Shown : Type 0 where
  pub bytes : List ℕ
  pub used : ℕ
