-- What the steps of a walk do, of its code.
use Rattle.std.specs.Prelude.{◌≡◌, ℕ, Bool, true, false, List, [], ◌∷◌, ◌++◌, ◌⊎◌, map}
use Rattle.lucid_equations.specs.declared.table.Table.{Table}
use Rattle.lucid_cert_rules.specs.Certificates.{PlainJudgment}
use Rattle.lucid_cert_rules.specs.declared.cell.Cell.{Cell}
use Rattle.lucid_cert_rules.specs.declared.walk.Walk.{Walk}
use Rattle.lucid_cert_rules.specs.declared.telling.Entry.{Entry}
use Rattle.lucid_cert_rules.specs.declared.telling.Telling.{Telling}
use Rattle.lucid_cert_rules.specs.declared.telling.Waiting.{Waiting}
use Rattle.lucid_cert_rules.specs.Cells.{is_among}
use Rattle.lucid_cert_rules.specs.Needs.{Finds, is_one_of}
use Rattle.lucid_cert_rules.specs.Outlines.{Line, CellNeeds, Tells, entry, lines_at}

-- what a walk that stands so comes to
abbrev pub Comes : Table → List PlainJudgment → Walk → (all : List ℕ) → Type 0
Comes T js w all = Finds T js w.waiting w.seen.keys w.cells.keys w.found.items all

-- The cell is asked for, and the judgment is found to ask for it, unless it was asked for; nothing else changes.
pub record FindsCell (old new : Walk) (cell : Cell) (number : ℕ) : Type 0 where
  pub waiting : new.waiting ≡ old.waiting
  pub seen : new.seen.keys ≡ old.seen.keys
  pub choice : ((is_among old.cells.keys cell ≡ false) × (new.cells.keys ≡ old.cells.keys ++ cell ∷ []) × (new.found.items ≡ old.found.items ++ number ∷ []))
      ⊎ ((is_among old.cells.keys cell ≡ true) × (new.cells.keys ≡ old.cells.keys) × (new.found.items ≡ old.found.items))

-- What a walk comes to that has visited the judgment, which is the last that it has seen, it comes to that has not.
abbrev pub Visits : Table → List PlainJudgment → (old new : Walk) → (number : ℕ) → Type 0
Visits T js old new i = (before all : List ℕ) → old.seen.keys ≡ before ++ i ∷ [] → is_one_of before i ≡ false → Comes T js new all
    → Finds T js (i ∷ old.waiting) before old.cells.keys old.found.items all

abbrev pub Steps : Table → List PlainJudgment → (old new : Walk) → (number : ℕ) → Type 0
Steps T js old new i = (all : List ℕ) → Comes T js new all → Finds T js (i ∷ old.waiting) old.seen.keys old.cells.keys old.found.items all

-- lines that wait, in plain data
abbrev pub plain_line : Waiting → Line
plain_line w = record { asked = w.asked; depth = w.depth }

-- These judgments wait, so deep, before what waited; nothing else changes.
pub record WaitsFor (old new : Telling) (found : List ℕ) (depth : ℕ) : Type 0 where
  pub waiting : map plain_line new.waiting ≡ lines_at depth found ++ map plain_line old.waiting
  pub told : new.told.keys ≡ old.told.keys
  pub entries : new.entries.items ≡ old.entries.items

-- What the cell was computed from waits.
abbrev pub WaitsForNeeds : Table → List PlainJudgment → (old new : Telling) → Cell → (depth : ℕ) → Type 0
WaitsForNeeds T js old new c d = (found : List ℕ) × CellNeeds T js c found × WaitsFor old new found d

-- The line is told; nothing else changes.
pub record AddsLine (old new : Telling) (line : Waiting) (above : Bool) : Type 0 where
  pub waiting : new.waiting ≡ old.waiting
  pub told : new.told.keys ≡ old.told.keys
  pub entries : new.entries.items ≡ old.entries.items ++ entry (plain_line line) above ∷ []

-- The lines that are told from here on stand behind those so far.
abbrev pub TellsOn : Table → List PlainJudgment → Telling → (all : List Entry) → Type 0
TellsOn T js t all = (es : List Entry) × Tells T js (map plain_line t.waiting) t.told.keys es × (all ≡ t.entries.items ++ es)

-- the same, where this line waits too, as the next
abbrev pub TellsNext : Table → List PlainJudgment → Telling → (next : Waiting) → (all : List Entry) → Type 0
TellsNext T js t n all = (es : List Entry) × Tells T js (plain_line n ∷ map plain_line t.waiting) t.told.keys es × (all ≡ t.entries.items ++ es)
