-- Which lines of an outline are told: those of the names that are chosen, or all.
use Rattle.std.specs.Prelude.{ℕ, Bool, false, ◌||◌, ◌==◌, List, [], ◌∷◌, length, Option, Some, None, slice_get, if◌then◌else◌}
use Rattle.std.specs.List.{list_any}
use Rattle.lucid_value.specs.Plain.{same_bytes}
use Rattle.lucid_tree.specs.Tree.{PlainTree, form, name, call, block}
use Rattle.lucid_cert_rules.specs.Certificates.{PlainJudgment}
use Rattle.lucid_cert_rules.specs.declared.telling.Entry.{Entry}
use Rattle.lucid_show_outline.specs.Views.{View}

-- it is one of these
unfoldable pub is_one_of : (names : List (List ℕ)) → List ℕ → Bool
is_one_of names x = list_any (λ (y : List ℕ). same_bytes y x) names

-- the piece is of one of these names, or calls it
unfoldable pub is_of : (names : List (List ℕ)) → PlainTree → Bool
is_of names (name at x) = is_one_of names x
is_of names (call at x es) = is_one_of names x
is_of names (form at h es) = false
is_of names (block at e ds) = false

unfoldable pub has_piece_of : (names : List (List ℕ)) → Option PlainTree → Bool
has_piece_of names (Some e) = is_of names e
has_piece_of names None = false

unfoldable pub asks_for : View → Option PlainJudgment → Bool
asks_for v (Some j) = has_piece_of v.names (slice_get v.pieces j.node)
asks_for v None = false

-- what the judgment of a number asks for is told: by its name, or because no names are chosen
unfoldable pub is_told : View → (number : ℕ) → Bool
is_told v i = (length v.names == 0) || asks_for v (slice_get v.judgments i)

-- the entries that are told
abbrev pub chosen : View → List Entry → List Entry
chosen v [] = []
chosen v (e ∷ es) = if is_told v e.asked then e ∷ chosen v es else chosen v es
