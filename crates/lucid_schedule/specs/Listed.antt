-- The place that a list of numbers picks. Both rules are this project's own.
use Rattle.std.specs.Prelude.{ℕ, ◌%◌, List, [], ◌∷◌}

-- The place that the numbers left pick among `count` tasks: the next number modulo `count`, and 0 after the last one.
abbrev pub picked_place : List ℕ → ℕ → ℕ
picked_place [] count = 0
picked_place (number ∷ _) count = number % count

-- The numbers left after a pick: all but the one that was used.
abbrev pub numbers_left : List ℕ → List ℕ
numbers_left [] = []
numbers_left (_ ∷ rest) = rest
