-- What stands in a grid: names, tests, values and contexts.
use Rattle.std.specs.Prelude.{ℕ, ◌-◌, ◌==◌, List, [], ◌∷◌, ◌++◌, codes, decimal, Option, Some, None, slice_get, if◌then◌else◌}
use Rattle.std.specs.Option.{option_and_then}
use Rattle.lucid_tree.specs.Tree.{PlainTree, form, name, call, block}
use Rattle.lucid_print.specs.Canonical.{source}
use Rattle.lucid_equations.specs.Rows.{name_at}
use Rattle.lucid_equations.specs.declared.rows.Entry.{Entry}
use Rattle.lucid_equations.specs.declared.rows.Entry.TheVariants.{Current}
use Rattle.lucid_equations.specs.declared.table.Table.{Table}
use Rattle.lucid_cert_rules.specs.Certificates.{PlainJudgment}
use Rattle.lucid_cert_rules.specs.declared.cell.Cell.{Cell}
use Rattle.lucid_cert_rules.specs.declared.rows.ContextRow.{ContextRow}
use Rattle.lucid_cert_rules.specs.declared.rows.ContextRow.TheVariants as context
use Rattle.lucid_show_drawing.specs.declared.asked.Asked.{Asked}
use Rattle.lucid_show_drawing.specs.declared.spot.Row.{Row}
use Rattle.lucid_show_drawing.specs.declared.spot.Row.TheVariants.{Input, Name, Test}
use Rattle.lucid_show_outline.specs.Asked.{asked_text, context_text, space_text}
use Rattle.lucid_show_outline.specs.Equations.{tested_text}
use Rattle.lucid_show_outline.specs.Lines.{cell_text}
use Rattle.lucid_show_outline.specs.Values.{value_shown}
use Rattle.lucid_show_outline.specs.Views.{View}

-- a name; of a call the function's, and that it has arguments
unfoldable pub called_text : PlainTree → List ℕ
called_text (name at x) = x
called_text (call at x es) = x ++ codes "(..)"
called_text (form at h es) = codes ".."
called_text (block at e ds) = codes ".."

unfoldable pub line_name : Option PlainTree → List ℕ
line_name (Some e) = called_text e
line_name None = codes ".."

-- a current name has its value at each time
unfoldable pub each_text : Option Entry → List ℕ
each_text (Some (Current body)) = codes " (at each time)"
each_text _ = []

unfoldable pub row_text : Table → Row → List ℕ
row_text T (Input k) = []
row_text T (Name n s) = space_text s ++ each_text (name_at T n)
row_text T (Test n s) = space_text s

-- the piece of a line: a name; of a test its whole text
unfoldable pub row_name : Row → Option PlainTree → List ℕ
row_name (Input k) e = line_name e
row_name (Name n s) e = line_name e
row_name (Test n s) e = tested_text e

unfoldable pub label_for : View → Row → Option PlainJudgment → List ℕ
label_for v r (Some j) = row_name r (slice_get v.pieces j.node) ++ row_text v.table r
label_for v r None = []

-- The label of a line: of an input, a name, a function or a test, with the space where it isn't 0.
unfoldable pub label_text : View → Asked → List ℕ
label_text v a = label_for v a.spot.row (slice_get v.judgments a.number)

unfoldable pub value_for : Option PlainJudgment → List ℕ
value_for (Some j) = value_shown j.value
value_for None = []

-- The value that is asked for: that of the judgment that asks.
unfoldable pub value_text : View → Asked → List ℕ
value_text v a = value_for (slice_get v.judgments a.number)

-- a test, with its time and its space
unfoldable pub test_text : View → PlainJudgment → List ℕ
test_text v j = tested_text (slice_get v.pieces j.node) ++ (codes " at " ++ (decimal j.time ++ space_text j.space))

-- what asks for a value, or the test
unfoldable pub told_name : View → Row → PlainJudgment → List ℕ
told_name v (Input k) j = asked_text v.pieces j
told_name v (Name n s) j = asked_text v.pieces j
told_name v (Test n s) j = test_text v j

unfoldable pub told_for : View → Row → Cell → Option PlainJudgment → List ℕ
told_for v r c (Some j) = told_name v r j ++ (codes " is " ++ (value_shown j.value ++ cell_text v c))
told_for v r c None = []

-- What asks for a value or is a test, the value, and how it came.
unfoldable pub told_text : View → Asked → List ℕ
told_text v a = told_for v a.spot.row a.cell (slice_get v.judgments a.number)

-- from which context a context is called, or the time that it remembers
unfoldable pub origin_text : List ContextRow → Option ContextRow → List ℕ
origin_text cs (Some (context.Call base place caller)) = codes " from " ++ context_text cs caller
origin_text cs (Some (context.Frozen base time)) = codes " at time " ++ decimal time
origin_text cs None = []

unfoldable pub call_text : PlainTree → List ℕ
call_text e = codes ": " ++ source e

unfoldable pub if_call : PlainTree → Option PlainTree
if_call (call at x es) = Some (call at x es)
if_call (name at x) = None
if_call (form at h es) = None
if_call (block at e ds) = None

unfoldable pub call_of : View → (number : ℕ) → Option PlainTree
call_of v i = option_and_then if_call (option_and_then (λ (j : PlainJudgment). slice_get v.pieces j.node) (slice_get v.judgments i))

abbrev pub first_call : Option PlainTree → (later : List ℕ) → List ℕ
first_call (Some e) later = call_text e
first_call None later = later

-- the first call that is among what is asked for
abbrev pub calls_text : View → List Asked → List ℕ
calls_text v [] = []
calls_text v (a ∷ more) = first_call (call_of v a.number) (calls_text v more)

-- the call that enters a context, and where that stands; or the time that it remembers
unfoldable pub entered_text : View → (context : ℕ) → List Asked → List ℕ
entered_text v c panel = calls_text v panel ++ origin_text v.contexts (slice_get v.contexts (c - 1))

-- What a context is: the program, or its number and how it is entered.
unfoldable pub title_text : View → (context : ℕ) → List Asked → List ℕ
title_text v c panel = context_text v.contexts c ++ (if c == 0 then [] else entered_text v c panel)
