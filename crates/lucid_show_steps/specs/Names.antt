-- The names of a program's table, as they stand in its source.
use Rattle.std.specs.Prelude.{◌≡◌, ◌⊎◌, ℕ, List, Option, None, Some, take, drop, length, nat_lt, slice_get, if◌then◌else◌}
use Rattle.std.specs.Option.{option_and_then}
use Rattle.std.specs.List.{prefix_len}
use Rattle.lucid_value.specs.Names.{is_name_byte}
use Rattle.lucid_tree.specs.Tree.{PlainTree}
use Rattle.lucid_tree.specs.WellMade.{IsWellMade}
use Rattle.lucid_compile.specs.Origins.{origins_of}
use Rattle.lucid_report.specs.declared.refusal.Refusal.{Refusal}
use Rattle.lucid_top.specs.Judged.{Spelt, RefusesText, RefusesNames}
use Rattle.lucid_show_steps.specs.declared.names.Names.{Names}

-- the name with which the rest of a source begins
unfoldable pub name_front : List ℕ → List ℕ
name_front bs = take (prefix_len is_name_byte bs) bs

-- the name that stands at a place of a source
unfoldable pub name_within : (source : List ℕ) → (at : ℕ) → Option (List ℕ)
name_within source at = if nat_lt (length source) at then None else Some (name_front (drop at source))

-- The name of a number: that which stands where its row comes from, at its definition, its parameter or its call.
unfoldable pub name_in : Names → (number : ℕ) → Option (List ℕ)
name_in names number = option_and_then (name_within names.source.items) (slice_get names.places.items number)

-- They are the places of the names of the tree that the source spells, in the order of its table.
pub record PlacesOf (source : List ℕ) (places : List ℕ) : Type 0 where
  pub tree : PlainTree
  pub spelt : Spelt source tree
  pub are : places ≡ (origins_of tree).names

-- They are the names of the source's program.
pub record NamesOf (source : List ℕ) (names : Names) : Type 0 where
  pub is : names.source.items ≡ source
  pub places : PlacesOf source names.places.items

-- The source is refused so: as a text, or by its names.
abbrev pub RefusesSource : (source : List ℕ) → Refusal → Type 0
RefusesSource source why = RefusesText source why ⊎ ((tree : PlainTree) × Spelt source tree × IsWellMade tree × RefusesNames tree why)
