-- The most that an option of a run may ask for: lines, references that are open one inside another, turns, and values that are held.
use Rattle.std.specs.Prelude.{ℕ}

abbrev pub most_asked : ℕ
most_asked = 1000000
