-- A stream of at most one value at a point has one text of so many lines.
use Rattle.std.proofs.Common.{◌≡◌, ℕ, List, ◌++◌, refl}
use Rattle.lucid_tree.specs.Output.{line}
use Rattle.lucid_fixed_point.specs.Streams.{Stream}
use Rattle.lucid_fixed_point.specs.Order.{IsSingle}
use Rattle.lucid_fixed_point.specs.Families.{LinesOf, no_lines, one_line_more}

pub lines-once : (a : Stream) → IsSingle a → (k : ℕ) (x y : List ℕ) → LinesOf a k x → LinesOf a k y → x ≡ y
lines-once a h k x y no_lines no_lines = refl
lines-once a h k x y (one_line_more {k = j} {bytes = xs} o v m e) (one_line_more {bytes = ys} q w n f) =
    λ i. lines-once a h j xs ys o q i ++ line (h j 0 v w m n i)
