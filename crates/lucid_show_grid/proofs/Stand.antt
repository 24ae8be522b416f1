-- In a line of text each value stands at its time.
use Rattle.std.proofs.Common.{◌≡◌, ℕ, ◌<◌, List, [], ◌∷◌, arith, ◌∙◌}
use Rattle.std.specs.Prelude.{◌==◌, if◌then◌else◌}
use Rattle.std.specs.List.{AllByRecursion}
use Rattle.std.proofs.lemmas.Grind.{common_steps}
use Rattle.lucid_show_grid.specs.Grids.{PlainMark, PlainLine}
use Rattle.lucid_show_grid.specs.Text.{value_at}
use Rattle.lucid_show_grid.specs.Laws.{IsLineInOrder, ValuesStand}
use Rattle.lucid_show_grid.proofs.Apart.{Later, Pairs, pairs_by_index}

at_its_time : (t : ℕ) (x y : List ℕ) → (if t == t then x else y) ≡ x
at_its_time t x y = grind (arith, common_steps)

at_another : (t u : ℕ) (x y : List ℕ) → t < u → (if t == u then x else y) ≡ y
at_another t u x y h = grind (arith, common_steps)

abbrev Stands : List PlainMark → PlainMark → Type 0
Stands ms m = value_at ms m.time ≡ m.value

-- an earlier value in front changes nothing
behind : (n : PlainMark) (all ms : List PlainMark) → AllByRecursion (Later n) ms → AllByRecursion (Stands all) ms → AllByRecursion (Stands (n ∷ all)) ms
behind n all [] later h = tt
behind n all (m ∷ ms) later h =
    (at_another n.time m.time n.value (value_at all m.time) later.0 ∙ h.0, behind n all ms later.1 h.1)

line_stands : (ms : List PlainMark) → Pairs Later ms → AllByRecursion (Stands ms) ms
line_stands [] h = tt
line_stands (m ∷ ms) h = (at_its_time m.time m.value (value_at ms m.time), behind m ms ms h.0 (line_stands ms h.1))

lines_stand : (ts : List ℕ) (ls : List PlainLine) → AllByRecursion (IsLineInOrder ts) ls → AllByRecursion (λ (l : PlainLine). AllByRecursion (Stands l.marks) l.marks) ls
lines_stand ts [] h = tt
lines_stand ts (l ∷ ls) h = (line_stands l.marks (pairs_by_index Later l.marks h.0.rise), lines_stand ts ls h.1)

pub values_stand : ValuesStand
values_stand p h = lines_stand p.times p.lines h.lines
