-- How wide the labels and the values of a panel are: as the widest, and two blanks.
use Rattle.std.specs.Prelude.{ℕ, ◌+◌, max, min, List, [], ◌∷◌, map, length, decimal}
use Rattle.std.specs.List.{flat_map}
use Rattle.lucid_show_grid.specs.Grids.{PlainMark, PlainLine, PlainPanel}
use Rattle.lucid_show_grid.specs.declared.widths.Columns.{Columns}

-- the length of the longest text, and this at least
abbrev pub longest : (least : ℕ) → (texts : List (List ℕ)) → ℕ
longest n [] = n
longest n (t ∷ ts) = longest (max n (length t)) ts

abbrev pub labels : List PlainLine → List (List ℕ)
labels ls = map (λ (l : PlainLine). l.label) ls

abbrev pub values_of : List PlainMark → List (List ℕ)
values_of ms = map (λ (m : PlainMark). m.value) ms

abbrev pub values : List PlainLine → List (List ℕ)
values ls = flat_map (λ (l : PlainLine). values_of l.marks) ls

-- The word `time` (4) stands over the labels, and the times over the values. No room is made for what is longer than 100.
unfoldable pub columns_of : PlainPanel → Columns
columns_of p = record {
  labels = min (longest 4 (labels p.lines)) 100 + 2;
  values = min (longest (longest 3 (map decimal p.times)) (values p.lines)) 100 + 2;
}
