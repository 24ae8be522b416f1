-- What is found at a place, and that each part of a tree that is well made is found.
use Rattle.std.specs.Prelude.{◌≡◌, ℕ, Some}
use Rattle.lucid_tree.specs.Tree.{PlainTree}
use Rattle.lucid_tree.specs.WellMade.{In, IsWellMade}
use Rattle.lucid_explain_run.specs.Parts.{own_place, all_parts, part_at}

-- What is found at a place has it.
abbrev pub FoundPartsStandThere : Type 0
FoundPartsStandThere = (e x : PlainTree) (at : ℕ) → part_at e at ≡ Some x → In x (all_parts e) × (own_place x ≡ at)

-- Of a tree that is well made each part is found at its own place.
abbrev pub PartsAreFound : Type 0
PartsAreFound = (e x : PlainTree) → IsWellMade e → In x (all_parts e) → part_at e (own_place x) ≡ Some x
