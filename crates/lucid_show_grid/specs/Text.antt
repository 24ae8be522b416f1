-- A grid as lines of text.
use Rattle.std.specs.Prelude.{ℕ, ◌-◌, ◌/◌, ◌==◌, max, List, [], ◌∷◌, ◌++◌, drop, length, codes, decimal, if◌then◌else◌}
use Rattle.std.specs.List.{flat_map}
use Rattle.lucid_show_grid.specs.Grids.{PlainMark, PlainLine, PlainPanel, PlainGrid}
use Rattle.lucid_show_grid.specs.declared.widths.Columns.{Columns}
use Rattle.lucid_show_grid.specs.Fields.{left, right, left_out_text}
use Rattle.lucid_show_grid.specs.Widths.{columns_of}

-- the value at a time, and a dot where nobody asked for it
abbrev pub value_at : List PlainMark → (time : ℕ) → List ℕ
value_at [] t = codes "."
value_at (m ∷ ms) t = if m.time == t then m.value else value_at ms t

-- the times, each in its columns, and the values of a line at these
abbrev pub times_text : (columns : ℕ) → (times : List ℕ) → List ℕ
times_text n ts = flat_map (λ t. right n (decimal t)) ts

abbrev pub values_text : (columns : ℕ) → List PlainMark → (times : List ℕ) → List ℕ
values_text n ms ts = flat_map (λ t. right n (value_at ms t)) ts

-- the line of the times, and that of a name
unfoldable pub heads_text : Columns → (times : List ℕ) → List ℕ
heads_text c ts = left c.labels (codes "time") ++ (times_text c.values ts ++ codes "\n")

unfoldable pub line_text : Columns → (times : List ℕ) → PlainLine → List ℕ
line_text c ts l = left c.labels l.label ++ (values_text c.values l.marks ts ++ codes "\n")

abbrev pub lines_text : Columns → (times : List ℕ) → List PlainLine → List ℕ
lines_text c ts ls = flat_map (line_text c ts) ls

-- how many of something are left out, in a line of its own, where there are such
unfoldable pub left_out_line : (what : List ℕ) → (count : ℕ) → List ℕ
left_out_line what n = if n == 0 then [] else left_out_text what n ++ codes "\n"

-- the last times: as many as have room in 100 columns, and one at least
unfoldable pub shown : Columns → (times : List ℕ) → List ℕ
shown c ts = drop (length ts - max ((100 - c.labels) / c.values) 1) ts

-- the times that are shown, a line for each name, and how many times are left out
unfoldable pub laid_text : Columns → PlainPanel → List ℕ
laid_text c p =
    heads_text c (shown c p.times)
    ++ (lines_text c (shown c p.times) p.lines ++ left_out_line (codes "earlier times") (length p.times - length (shown c p.times)))

-- A panel: its title, the times across, and a line for each name.
unfoldable pub panel_text : PlainPanel → List ℕ
panel_text p = codes "\n[" ++ (p.title ++ (codes "]\n" ++ laid_text (columns_of p) p))

abbrev pub panels_text : List PlainPanel → List ℕ
panels_text ps = flat_map panel_text ps

-- The heading, the panels, and how many values are left out.
unfoldable pub grid_text : PlainGrid → List ℕ
grid_text g = g.heading ++ (codes "\n" ++ (panels_text g.panels ++ left_out_line (codes "values") g.left_out))
