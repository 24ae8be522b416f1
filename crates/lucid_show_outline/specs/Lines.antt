-- The outline of a demand as a text.
use Rattle.std.specs.Prelude.{◌≡◌, ℕ, ◌+◌, ◌-◌, ◌*◌, ◌==◌, Bool, true, false, min, replicate, List, [], ◌∷◌, ◌++◌, take, length, codes, decimal, nat_le, Option, Some, None, slice_get, if◌then◌else◌}
use Rattle.lucid_equations.specs.Rows.{row_at}
use Rattle.lucid_equations.specs.declared.rows.Node.{Node}
use Rattle.lucid_equations.specs.declared.rows.Node.TheVariants.{Call}
use Rattle.lucid_cert_rules.specs.Certificates.{PlainJudgment}
use Rattle.lucid_cert_rules.specs.declared.cell.Cell.{Cell}
use Rattle.lucid_cert_rules.specs.declared.cell.Cell.TheVariants.{Named, Element}
use Rattle.lucid_cert_rules.specs.declared.telling.Entry.{Entry}
use Rattle.lucid_cert_rules.specs.Cells.{asked_at}
use Rattle.lucid_cert_rules.specs.Outlines.{Outlines}
use Rattle.lucid_show_outline.specs.Values.{value_shown}
use Rattle.lucid_show_outline.specs.Views.{View}
use Rattle.lucid_show_outline.specs.Asked.{asked_text, context_text}
use Rattle.lucid_show_outline.specs.Equations.{equation}
use Rattle.lucid_show_outline.specs.Chosen.{chosen}

-- so many blanks (32)
unfoldable pub blanks : (count : ℕ) → List ℕ
blanks n = replicate n 32

-- Two blanks for each level; from level 41 on its number stands behind those of 40.
unfoldable pub indent : (depth : ℕ) → List ℕ
indent d = if nat_le d 40 then blanks (2 * d) else blanks 80 ++ (decimal d ++ codes ": ")

-- the equation of a judgment: as many levels as there are judgments before it suffice
unfoldable pub equation_text : View → (number : ℕ) → List ℕ
equation_text v i = codes "   = " ++ (equation (i + 1) v i).text

unfoldable pub input_text : Option (List ℕ) → List ℕ
input_text (Some name) = codes " of " ++ name
input_text None = []

-- the line of an element, from 1, and its input
unfoldable pub element_text : View → (stream time : ℕ) → List ℕ
element_text v k t = codes "   (line " ++ (decimal (t + 1) ++ (input_text (slice_get v.table.inputs k) ++ codes ")"))

-- how the value of a cell came: by its equation, or from a line of an input
unfoldable pub cell_text : View → Cell → List ℕ
cell_text v (Named i) = equation_text v i
cell_text v (Element k t) = element_text v k t

-- in which context a judgment asks
unfoldable pub inside_text : View → PlainJudgment → List ℕ
inside_text v j = if j.context == 0 then [] else codes " in " ++ context_text v.contexts j.context

-- and, where it is of a call, which context that enters: that of the judgment with which it goes on
unfoldable pub target_text : View → Option PlainJudgment → List ℕ
target_text v (Some j) = codes " as " ++ context_text v.contexts j.context
target_text v None = []

unfoldable pub calls : Node → Bool
calls (Call n p l) = true
calls _ = false

unfoldable pub is_call : Option Node → Bool
is_call (Some n) = calls n
is_call None = false

unfoldable pub entered_as : View → (call : Bool) → Cell → List ℕ
entered_as v call (Named i) = if call then target_text v (slice_get v.judgments i) else []
entered_as v call (Element k t) = []

unfoldable pub came_text : View → (above : Bool) → Cell → List ℕ
came_text v above c = if above then codes "   (above)" else cell_text v c

-- what asks, and where
unfoldable pub head_text : View → PlainJudgment → Cell → List ℕ
head_text v j c = asked_text v.pieces j ++ (inside_text v j ++ entered_as v (is_call (row_at v.table j.node)) c)

-- what asks, its value, and how that came
unfoldable pub told_text : View → Entry → PlainJudgment → Cell → List ℕ
told_text v e j c = indent e.depth ++ (head_text v j c ++ (codes " is " ++ (value_shown j.value ++ (came_text v e.above c ++ codes "\n"))))

unfoldable pub line_for : View → Entry → Option Cell → PlainJudgment → List ℕ
line_for v e (Some c) j = told_text v e j c
line_for v e None j = []

unfoldable pub line_by : View → Entry → Option Cell → Option PlainJudgment → List ℕ
line_by v e c (Some j) = line_for v e c j
line_by v e c None = []

-- the line of an entry
unfoldable pub line_text : View → Entry → List ℕ
line_text v e = line_by v e (asked_at v.table v.judgments e.asked) (slice_get v.judgments e.asked)

unfoldable pub output_by : View → (number : ℕ) → Option PlainJudgment → List ℕ
output_by v i (Some j) = codes "output at " ++ (decimal j.time ++ (codes " is " ++ (value_shown j.value ++ equation_text v i)))
output_by v i None = []

-- what the output is, which is the judgment of a number; and its line
abbrev pub heading : View → (number : ℕ) → List ℕ
heading v i = output_by v i (slice_get v.judgments i)

abbrev pub output_text : View → (number : ℕ) → List ℕ
output_text v i = heading v i ++ codes "\n"

-- the lines of entries
abbrev pub entries_text : View → List Entry → List ℕ
entries_text v [] = []
entries_text v (e ∷ es) = line_text v e ++ entries_text v es

-- how many lines of a kind there are, where there are such
unfoldable pub count_text : (kind : List ℕ) → (count : ℕ) → List ℕ
count_text kind n = if n == 0 then [] else codes ".. (lines " ++ (kind ++ (codes ": " ++ (decimal n ++ codes ")\n")))

abbrev pub left_out_text : (count : ℕ) → List ℕ
left_out_text n = count_text (codes "left out") n

abbrev pub others_text : (count : ℕ) → List ℕ
others_text n = count_text (codes "of other names") n

-- The output, under it the first lines, at most so many, and how many more there are.
abbrev pub lines_text : View → (most number : ℕ) → List Entry → List ℕ
lines_text v most i es = output_text v i ++ (entries_text v (take (min (length es) most) es) ++ left_out_text (length es - min (length es) most))

-- The lines of the names that are chosen, and how many there are of others.
abbrev pub told_lines : View → (most number : ℕ) → List Entry → List ℕ
told_lines v most i es = lines_text v most i (chosen v es) ++ others_text (length es - length (chosen v es))

-- A text is the outline of the judgment of a number.
abbrev pub IsOutlineOf : View → (most number : ℕ) → (text : List ℕ) → Type 0
IsOutlineOf v most i text = (es : List Entry) × Outlines v.table v.judgments i es × (text ≡ told_lines v most i es)

-- It is that of the last.
abbrev pub IsOutline : View → (most : ℕ) → (text : List ℕ) → Type 0
IsOutline v most text = IsOutlineOf v most (length v.judgments - 1) text
