-- What the value of a judgment was computed from, up to the next references.
use Rattle.std.specs.Prelude.{◌≡◌, ℕ, nat_eq, Bool, true, false, List, [], ◌∷◌, ◌++◌, Option, Some, None, slice_get}
use Rattle.std.specs.List.{list_any}
use Rattle.lucid_equations.specs.declared.table.Table.{Table}
use Rattle.lucid_cert_rules.specs.Certificates.{PlainJudgment}
use Rattle.lucid_cert_rules.specs.declared.cell.Cell.{Cell}
use Rattle.lucid_cert_rules.specs.Cells.{asked_at, is_among}

abbrev pub uses_of : Option PlainJudgment → List ℕ
uses_of (Some j) = j.uses
uses_of None = []

-- the uses of the judgment of a number, none where there is none
abbrev pub uses_at : List PlainJudgment → (number : ℕ) → List ℕ
uses_at js i = uses_of (slice_get js i)

-- it is one of these numbers
abbrev pub is_one_of : List ℕ → ℕ → Bool
is_one_of ns i = list_any (nat_eq i) ns

-- A walk goes on from judgments that wait, in order, where some were seen, these cells were asked for, and these judgments were found to ask for
-- them. It ends with all that were found. No judgment is visited twice. One that asks is found, unless one was found that asks for the same; of
-- one that asks for nothing, the uses wait next.
pub data Finds (T : Table) (js : List PlainJudgment) : (waiting seen : List ℕ) → List Cell → (found all : List ℕ) → Type 0 where
  no_more : {seen found : List ℕ} {cells : List Cell} → Finds T js [] seen cells found found
  seen_before : {i : ℕ} {more seen found all : List ℕ} {cells : List Cell} → is_one_of seen i ≡ true → Finds T js more seen cells found all
      → Finds T js (i ∷ more) seen cells found all
  looked_into : {i : ℕ} {more seen found all : List ℕ} {cells : List Cell} → is_one_of seen i ≡ false → asked_at T js i ≡ None
      → Finds T js (uses_at js i ++ more) (seen ++ i ∷ []) cells found all → Finds T js (i ∷ more) seen cells found all
  asked : {i : ℕ} {more seen found all : List ℕ} {cells : List Cell} → is_one_of seen i ≡ false → (c : Cell) → asked_at T js i ≡ Some c
      → is_among cells c ≡ false → Finds T js more (seen ++ i ∷ []) (cells ++ c ∷ []) (found ++ i ∷ []) all → Finds T js (i ∷ more) seen cells found all
  asked_before : {i : ℕ} {more seen found all : List ℕ} {cells : List Cell} → is_one_of seen i ≡ false → (c : Cell) → asked_at T js i ≡ Some c
      → is_among cells c ≡ true → Finds T js more (seen ++ i ∷ []) cells found all → Finds T js (i ∷ more) seen cells found all

-- The value of the judgment of this number was computed from what these ask for, in this order.
abbrev pub Needs : Table → List PlainJudgment → (number : ℕ) → (found : List ℕ) → Type 0
Needs T js i found = Finds T js (i ∷ []) [] [] [] found
