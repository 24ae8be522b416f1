-- What the boxes of a picture stand for, and at which others each looked. A value looked at the tests of its searches too: `n whenever n mod 3 eq 0`
-- at time 1 looked at `n mod 3 eq 0` at the times 0 to 3, and at n at time 3; and each of the tests at n at its own time.
use Rattle.std.specs.Prelude.{ℕ, zero, suc, ◌+◌, List, [], ◌∷◌, ◌++◌, map, drop, length, Option, Some, None, slice_get, if◌then◌else◌, Contains}
use Rattle.std.specs.List.{flat_map}
use Rattle.std.specs.List.Sorted.{IsStrictlyIncreasing}
use Rattle.lucid_cert_rules.specs.Cells.{asked_at, is_among}
use Rattle.lucid_cert_rules.specs.Certificates.{PlainJudgment}
use Rattle.lucid_cert_rules.specs.declared.cell.Cell.{Cell}
use Rattle.lucid_cert_rules.specs.declared.cell.Cell.TheVariants.{Named, Element}
use Rattle.lucid_show_outline.specs.Searches.{tests}
use Rattle.lucid_show_outline.specs.Views.{View}

-- The box of a judgment is what it asks for. A test that asks for nothing, as `n gt 3`, has a box of its own.
unfoldable pub box_for : (number : ℕ) → Option Cell → Cell
box_for i (Some c) = c
box_for i None = Named i

abbrev pub box_at : View → (number : ℕ) → Cell
box_at v i = box_for i (asked_at v.table v.judgments i)

-- the boxes of judgments
abbrev pub boxes_at : View → (numbers : List ℕ) → List Cell
boxes_at v is = map (box_at v) is

-- what a judgment uses beside its tests
abbrev pub others : View → PlainJudgment → List ℕ
others v j = drop (length (tests v j)) j.uses

-- One that asks for nothing looked at its tests, and further through what it uses beside them; one that asks looked at itself alone.
unfoldable pub looked_through : View → (further : List ℕ → List ℕ) → Option PlainJudgment → List ℕ
looked_through v further (Some j) = tests v j ++ further (others v j)
looked_through v further None = []

unfoldable pub looked_for : View → (further : List ℕ → List ℕ) → (number : ℕ) → Option Cell → List ℕ
looked_for v further i (Some c) = i ∷ []
looked_for v further i None = looked_through v further (slice_get v.judgments i)

-- At which judgments, which ask or are tests, the judgment of a number looked first; so many levels deep.
unfoldable pub looked : (levels : ℕ) → View → (number : ℕ) → List ℕ
looked zero v i = []
looked (suc n) v i = looked_for v (flat_map (looked n v)) i (asked_at v.table v.judgments i)

-- cells behind those that are had, each once
abbrev pub once : (had : List Cell) → List Cell → List Cell
once had [] = had
once had (c ∷ cs) = if is_among had c then once had cs else once (had ++ c ∷ []) cs

abbrev pub boxes_once : View → (numbers : List ℕ) → List Cell
boxes_once v is = once [] (boxes_at v is)

-- At which boxes a box looked, each once: as many levels as there are judgments before its own suffice. An element of an input looked at none.
abbrev pub looked_at : View → Cell → List Cell
looked_at v (Named i) = boxes_once v (looked (i + 1) v i)
looked_at v (Element k t) = []

-- the tests of all searches of the certificate
abbrev pub all_tests : View → List ℕ
all_tests v = flat_map (tests v) v.judgments

-- The same numbers, each once, in order.
pub record AreOnce (of these : List ℕ) : Type 0 where
  pub rise : IsStrictlyIncreasing these
  pub all : (i : ℕ) → Contains of i → Contains these i
  pub no_other : (i : ℕ) → Contains these i → Contains of i

abbrev pub AreTests : View → (these : List ℕ) → Type 0
AreTests v these = AreOnce (all_tests v) these
