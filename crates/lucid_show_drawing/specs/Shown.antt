-- Which values and tests a grid shows.
use Rattle.std.specs.Prelude.{◌≡◌, ℕ, Bool, false, ◌&&◌, nat_lt, not, List, [], ◌∷◌, map, Some, is_some, length, if◌then◌else◌}
use Rattle.lucid_cert_rules.specs.Cells.{asked_at}
use Rattle.lucid_cert_rules.specs.declared.telling.Entry.{Entry}
use Rattle.lucid_show_outline.specs.Views.{View}
use Rattle.lucid_show_drawing.specs.declared.asked.Asked.{Asked}
use Rattle.lucid_show_drawing.specs.Looked.{box_at}
use Rattle.lucid_show_drawing.specs.Spots.{spot_at}

-- The judgments of the entries that tell a cell whole: one for each cell.
abbrev pub told_whole : List Entry → List ℕ
told_whole [] = []
told_whole (e ∷ es) = if e.above then told_whole es else e.asked ∷ told_whole es

-- It is the box of its judgment, at the spot of that.
pub record IsAsked (v : View) (a : Asked) : Type 0 where
  pub asks : box_at v a.number ≡ a.cell
  pub stands : spot_at v a.number ≡ Some a.spot

abbrev pub numbers : List Asked → List ℕ
numbers xs = map (λ (a : Asked). a.number) xs

-- the judgment of a number is there, and asks for nothing
unfoldable pub asks_nothing : View → (number : ℕ) → Bool
asks_nothing v i = nat_lt i (length v.judgments) && not (is_some (asked_at v.table v.judgments i))

abbrev pub test_entry : (number : ℕ) → Entry
test_entry i = record { asked = i; depth = 0; above = false }

-- an entry for each of these tests that asks for nothing
abbrev pub test_entries : View → (tests : List ℕ) → List Entry
test_entries v [] = []
test_entries v (i ∷ is) = if asks_nothing v i then test_entry i ∷ test_entries v is else test_entries v is
