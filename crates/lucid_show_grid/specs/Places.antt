-- Where the boxes of a picture stand, in pixels: a letter is 8 wide, a box 30 high, lines stand 64 apart, and boxes beside each other 26.
use Rattle.std.specs.Prelude.{ℕ, ◌+◌, ◌*◌, ◌/◌, ◌<◌, ◌==◌, slice_index, List, [], ◌∷◌, ◌++◌, map, length, if◌then◌else◌}
use Rattle.lucid_show_grid.specs.Grids.{PlainMark, PlainLine, PlainPanel, plain_mark}
use Rattle.lucid_show_grid.specs.declared.places.Frame.{Frame}
use Rattle.lucid_show_grid.specs.declared.places.Place.{Place}
use Rattle.lucid_show_grid.specs.declared.places.Placed.{Placed}
use Rattle.lucid_show_grid.specs.Widths.{columns_of}

unfoldable pub frame_of : (top : ℕ) → PlainPanel → Frame
frame_of y p = record { top = y; label = 8 * (columns_of p).labels; width = 8 * (columns_of p).values }

unfoldable pub place_at : Frame → (line column : ℕ) → Place
place_at f i k = record { x = 20 + (f.label + k * (f.width + 26)); y = f.top + (58 + 64 * i); width = f.width }

-- the middle of a box, from the left
unfoldable pub middle : Place → ℕ
middle p = p.x + p.width / 2

-- the column of a time
abbrev pub index_of : List ℕ → (time : ℕ) → ℕ
index_of [] t = 0
index_of (u ∷ us) t = if u == t then 0 else index_of us t + 1

-- each time before a column is before the time of that column
abbrev pub HasRisen : (times : List ℕ) → (column : ℕ) → Type 0
HasRisen ts i = (k : ℕ) → k < i → slice_index ts k < slice_index ts i

-- a value, and where its box stands
pub record PlainPlaced : Type 0 where
  pub place : Place
  pub mark : PlainMark

abbrev pub plain_placed : Placed → PlainPlaced
plain_placed p = record { place = p.place; mark = plain_mark p.mark.now }

-- the values of a line, each in the column of its time; those of lines; and those of panels that stand below each other
abbrev pub place_mark : Frame → (times : List ℕ) → (line : ℕ) → PlainMark → PlainPlaced
place_mark f ts i m = record { place = place_at f i (index_of ts m.time); mark = m }

abbrev pub place_lines : Frame → (times : List ℕ) → (line : ℕ) → List PlainLine → List PlainPlaced
place_lines f ts i [] = []
place_lines f ts i (l ∷ ls) = map (place_mark f ts i) l.marks ++ place_lines f ts (i + 1) ls

unfoldable pub height : PlainPanel → ℕ
height p = 64 * length p.lines + 38

unfoldable pub below : (top : ℕ) → PlainPanel → ℕ
below y p = y + (height p + 16)

abbrev pub place_panels : (top : ℕ) → List PlainPanel → List PlainPlaced
place_panels y [] = []
place_panels y (p ∷ ps) = place_lines (frame_of y p) p.times 0 p.lines ++ place_panels (below y p) ps

-- the top of what stands below all panels
abbrev pub bottom : (top : ℕ) → List PlainPanel → ℕ
bottom y [] = y
bottom y (p ∷ ps) = bottom (below y p) ps
