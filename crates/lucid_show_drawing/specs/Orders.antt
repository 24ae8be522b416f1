-- Of the code: how what is shown stands, and where cells are found.
use Rattle.std.specs.Prelude.{◌≡◌, ◌≢◌, ◌≤◌, ◌<◌, ℕ, false, List, [], ◌∷◌, ◌++◌, length, take, Option, Some, slice_get, slice_index_or, All, MatchOption}
use Rattle.std.specs.Option.{option_to_list, option_map}
use Rattle.indexmap.specs.IndexMap.{IndexMap, get}
use Rattle.lucid_cert_rules.specs.Cells.{is_among}
use Rattle.lucid_cert_rules.specs.contracts.cell.CellPartialEq.TheImpl.{eq-value}
use Rattle.lucid_cert_rules.specs.declared.cell.Cell.{Cell}
use Rattle.lucid_cert_rules.specs.declared.telling.Entry.{Entry}
use Rattle.lucid_show_grid.specs.declared.grid.Arrow.{Arrow}
use Rattle.lucid_show_outline.specs.Views.{View}
use Rattle.lucid_show_drawing.specs.declared.asked.Asked.{Asked}
use Rattle.lucid_show_drawing.specs.Shown.{IsAsked, numbers}

-- each entry is of a judgment that is there
abbrev pub AllThere : View → List Entry → Type 0
AllThere v es = All (λ (e : Entry). e.asked < length v.judgments) es

-- These are the boxes of the judgments of these numbers.
pub record AreAsked (v : View) (ns : List ℕ) (xs : List Asked) : Type 0 where
  pub same : numbers xs ≡ ns
  pub each : All (IsAsked v) xs

-- what has one key stands side by side
abbrev pub SideBySide : {X K : Type 0} → (X → K) → List X → Type 0
SideBySide {X} key xs =
    (i j k : ℕ) (d : X) → i ≤ j → j ≤ k → k < length xs → key (slice_index_or xs i d) ≡ key (slice_index_or xs k d)
    → key (slice_index_or xs j d) ≡ key (slice_index_or xs k d)

abbrev pub RowsTogether : List Asked → Type 0
RowsTogether xs = SideBySide (λ (a : Asked). a.spot.row) xs

-- What stands in one context stands together, and in that what stands in one row.
pub record StandTogether (xs : List Asked) : Type 0 where
  pub contexts : SideBySide (λ (a : Asked). a.spot.context) xs
  pub rows : (i j k : ℕ) (d : Asked) → i ≤ j → j ≤ k → k < length xs
      → (slice_index_or xs i d).spot.context ≡ (slice_index_or xs k d).spot.context → (slice_index_or xs i d).spot.row ≡ (slice_index_or xs k d).spot.row
      → (slice_index_or xs j d).spot.row ≡ (slice_index_or xs k d).spot.row

-- So many at the front have this key, and not the next.
pub record AreFront {X K : Type 0} (key : X → K) (xs : List X) (k : K) (count : ℕ) : Type 0 where
  pub within : count ≤ length xs
  pub same : (i : ℕ) (d : X) → i < count → key (slice_index_or xs i d) ≡ k
  pub ends : (d : X) → count < length xs → key (slice_index_or xs count d) ≢ k

-- the place that a map has for a cell
abbrev pub place_in : {S : Type 0} → IndexMap Cell ℕ S → Cell → Option ℕ
place_in m c = get eq-value.it m c

-- where cells are drawn; and where they are so far, that is, among so many of the first
abbrev pub ArePlaces : (drawn : List Cell) → (place : Cell → Option ℕ) → Type 0
ArePlaces drawn place = (c : Cell) → MatchOption (place c) (is_among drawn c ≡ false) (λ i. slice_get drawn i ≡ Some c)

abbrev pub PlacesSoFar : (drawn : List Cell) → (count : ℕ) → (place : Cell → Option ℕ) → Type 0
PlacesSoFar drawn n place = (c : Cell) → MatchOption (place c) (is_among (take n drawn) c ≡ false) (λ i. slice_get drawn i ≡ Some c)

-- the arrows to cells, by their places
abbrev pub arrow_by : (from : ℕ) → (to : ℕ) → Arrow
arrow_by i k = record { from = i; to = k }

abbrev pub arrows_by : (place : Cell → Option ℕ) → (from : ℕ) → List Cell → List Arrow
arrows_by place i [] = []
arrows_by place i (c ∷ cs) = option_to_list (option_map (arrow_by i) (place c)) ++ arrows_by place i cs
