-- The laws of grids.
use Rattle.std.specs.Prelude.{◌≡◌, ◌≢◌, ◌⊎◌, ℕ, ◌+◌, ◌<◌, ◌≤◌, List, [], ◌∷◌, ◌++◌, codes, length}
use Rattle.std.specs.List.{AllByRecursion, AllPairs, Contains}
use Rattle.std.specs.List.Sorted.{IsStrictlyIncreasing}
use Rattle.lucid_show_grid.specs.declared.places.Place.{Place}
use Rattle.lucid_show_grid.specs.Grids.{PlainMark, PlainLine, PlainPanel}
use Rattle.lucid_show_grid.specs.Escapes.{escaped}
use Rattle.lucid_show_grid.specs.Widths.{columns_of}
use Rattle.lucid_show_grid.specs.Text.{heads_text, line_text, shown, value_at}
use Rattle.lucid_show_grid.specs.Places.{PlainPlaced, place_panels}

-- No `<` (60), `>` (62), quote (34) or apostrophe (39) of a text stands between tags.
abbrev pub EscapedIsPlain : Type 0
EscapedIsPlain = (text : List ℕ) → AllByRecursion (λ b. (b ≢ 60) × (b ≢ 62) × (b ≢ 34) × (b ≢ 39)) (escaped text)

-- the names of bytes between tags, behind the `&`
abbrev pub byte_names : List (List ℕ)
byte_names = codes "amp;" ∷ (codes "lt;" ∷ (codes "gt;" ∷ (codes "quot;" ∷ (codes "#39;" ∷ []))))

abbrev pub BeginsWithName : List ℕ → Type 0
BeginsWithName text = (name : List ℕ) × (rest : List ℕ) × Contains byte_names name × (text ≡ name ++ rest)

-- each `&` (38) has the name of a byte behind it
abbrev pub NamesBytes : List ℕ → Type 0
NamesBytes [] = Unit {0}
NamesBytes (b ∷ bs) = (b ≡ 38 → BeginsWithName bs) × NamesBytes bs

-- An `&` stands between tags only as the beginning of such a name.
abbrev pub EscapedNamesBytes : Type 0
EscapedNamesBytes = (text : List ℕ) → NamesBytes (escaped text)

-- The lines of a panel are 100 columns wide at most, and have a line's end, where a name and one value have room in as many.
abbrev pub LinesFit : Type 0
LinesFit =
    (p : PlainPanel) → (columns_of p).labels + (columns_of p).values ≤ 100
    → (length (heads_text (columns_of p) (shown (columns_of p) p.times)) ≤ 101)
    × AllByRecursion (λ (l : PlainLine). length (line_text (columns_of p) (shown (columns_of p) p.times) l) ≤ 101) p.lines

-- A line is in order where the times of its values rise, and are among those across; a panel, where the times across rise, and its lines are in order.
pub record IsLineInOrder (times : List ℕ) (l : PlainLine) : Type 0 where
  pub rise : AllPairs (λ (m n : PlainMark). m.time < n.time) l.marks
  pub among : AllByRecursion (λ (m : PlainMark). Contains times m.time) l.marks

pub record IsInOrder (p : PlainPanel) : Type 0 where
  pub times : IsStrictlyIncreasing p.times
  pub lines : AllByRecursion (IsLineInOrder p.times) p.lines

-- In the text of a panel that is in order each value stands at its time.
abbrev pub ValuesStand : Type 0
ValuesStand =
    (p : PlainPanel) → IsInOrder p
    → AllByRecursion (λ (l : PlainLine). AllByRecursion (λ (m : PlainMark). value_at l.marks m.time ≡ m.value) l.marks) p.lines

-- a box ends at the left of another, or above it
abbrev pub Apart : Place → Place → Type 0
Apart p q = (p.x + p.width < q.x) ⊎ (p.y + 30 < q.y)

-- In the picture of panels that are in order no box covers another.
abbrev pub BoxesApart : Type 0
BoxesApart =
    (top : ℕ) (ps : List PlainPanel) → AllByRecursion IsInOrder ps → AllPairs (λ (p q : PlainPlaced). Apart p.place q.place) (place_panels top ps)
