-- What the value of a judgment was computed from, as a text: its equation, with names and calls at their times.
use Rattle.std.specs.Prelude.{ℕ, zero, suc, ◌-◌, ◌==◌, Bool, false, not, List, [], ◌++◌, map, drop, take, length, codes, decimal, Option, Some, None, slice_get, if◌then◌else◌}
use Rattle.lucid_value.specs.Plain.{PlainValue, same_bytes}
use Rattle.lucid_ops.specs.declared.op.Op.{Op}
use Rattle.lucid_ops.specs.declared.op.Form.{Form}
use Rattle.lucid_ops.specs.declared.op.Form.TheVariants.{Before, Between, Called}
use Rattle.lucid_ops.specs.Row.{Row, left_level, right_level}
use Rattle.lucid_ops.specs.Rows.{operator_row}
use Rattle.lucid_tree.specs.declared.form.Form.{Form as StreamForm}
use Rattle.lucid_tree.specs.declared.form.Decider.{Decider}
use Rattle.lucid_tree.specs.Forms.{form_row}
use Rattle.lucid_tree.specs.declared.form.Decider.TheVariants.{Point, Test, Target, Search}
use Rattle.lucid_tree.specs.Tree.{PlainTree}
use Rattle.lucid_print.specs.Canonical.{Part, part, placed, parted, source}
use Rattle.lucid_equations.specs.Rows.{read, row_at}
use Rattle.lucid_equations.specs.declared.rows.Node.{Node}
use Rattle.lucid_equations.specs.declared.rows.Node.TheVariants.{Const, Apply, Freeze}
use Rattle.lucid_cert_rules.specs.Certificates.{PlainJudgment}
use Rattle.lucid_show_outline.specs.declared.does.Does.{Does}
use Rattle.lucid_show_outline.specs.declared.does.Does.TheVariants.{Asks, Constant, Applies, Passes, Freezes, Chooses, Searches}
use Rattle.lucid_show_outline.specs.declared.part.Part.{Part as Code}
use Rattle.lucid_show_outline.specs.Values.{value_shown, constant_shown}
use Rattle.lucid_show_outline.specs.Views.{View, used}
use Rattle.lucid_show_outline.specs.Asked.{asked_text, context_text}
use Rattle.lucid_show_outline.specs.Tests.{judgments_at, runs_text}

-- The text of a part has a level, as in a canonical source: what needs no parentheses binds tightest, a sentence loosest.
abbrev pub plain_part : Code → Part
plain_part p = part p.level p.text.items

abbrev pub plain_parts : List Code → List Part
plain_parts ps = map plain_part ps

abbrev pub tight : List ℕ → Part
tight s = part 12 s

abbrev pub sentence : List ℕ → Part
sentence s = part 0 s

-- what is told where nothing is known
abbrev pub unknown : Part
unknown = tight (codes "..")

-- What a form over streams does with the judgments that it uses, by what decides: the one is passed on, where it only moves the point; the first
-- decides; or all but what is found are tests of its second part, by that part's number.
abbrev pub searches : Option ℕ → Does
searches (Some part) = Searches part
searches None = Asks

abbrev pub does_by : Decider → (parts : List ℕ) → Does
does_by Point ps = Passes
does_by Test ps = Chooses
does_by Target ps = Chooses
does_by Search ps = searches (slice_get ps 1)

abbrev pub does_read : Option (StreamForm × List ℕ) → Does
does_read (Some p) = does_by (form_row p.0).decider p.1
does_read None = Asks

-- What a node does with them: it is a constant; an operator is applied to them; the one is passed on in the context that is entered; it does what its
-- form does; or it asks.
unfoldable pub does : Node → Does
does (Const k) = Constant
does (Apply op args) = Applies op
does (Freeze a) = Freezes
does n = does_read (read n)

-- the uses whose own texts are told: of a search the last alone, and none of what asks, which is told by its name
unfoldable pub told_uses : Does → List ℕ → List ℕ
told_uses Asks us = []
told_uses (Searches p) us = drop (length us - 1) us
told_uses _ us = us

-- an operand in a place that wants this level
unfoldable pub operand_text : (wanted : ℕ) → Option Part → List ℕ
operand_text k (Some p) = placed k p
operand_text k None = codes ".."

-- parts as arguments: sentences stand in parentheses
abbrev pub arguments : List Part → List (List ℕ)
arguments ps = map (placed 1) ps

-- An operator with its operands, as in a canonical source.
unfoldable pub called_text : Row → List Part → List ℕ
called_text r ps = r.spelling ++ (codes "(" ++ (parted (arguments ps) ++ codes ")"))

unfoldable pub before_text : Row → List Part → List ℕ
before_text r ps = r.spelling ++ (codes " " ++ operand_text r.level (slice_get ps 0))

unfoldable pub between_text : Row → List Part → List ℕ
between_text r ps =
    operand_text (left_level r.side r.level) (slice_get ps 0)
    ++ (codes " " ++ (r.spelling ++ (codes " " ++ operand_text (right_level r.side r.level) (slice_get ps 1))))

unfoldable pub applied_text : Form → Row → List Part → List ℕ
applied_text Before r ps = before_text r ps
applied_text Between r ps = between_text r ps
applied_text Called r ps = called_text r ps

unfoldable pub applied_by : Row → List Part → Part
applied_by r ps = part r.level (applied_text r.form r ps)

abbrev pub applied : Op → List Part → Part
applied op ps = applied_by (operator_row op) ps

-- what is passed on; or the value, where nothing is
unfoldable pub passed : PlainValue → Option Part → Part
passed w (Some p) = p
passed w None = tight (value_shown w)

-- the context and the time that are entered
unfoldable pub entered_text : View → Option PlainJudgment → List ℕ
entered_text v (Some j) = context_text v.contexts j.context ++ (codes " at time " ++ (decimal j.time ++ codes ": "))
entered_text v None = []

unfoldable pub frozen : View → (uses : List ℕ) → List Part → Part
frozen v us ps = sentence (entered_text v (used v us 0) ++ operand_text 0 (slice_get ps 0))

-- what comes of a test: the part that is chosen, or the value where none is
unfoldable pub result_text : PlainValue → Option Part → List ℕ
result_text w (Some p) = p.text
result_text w None = value_shown w

-- a test, its value, and what comes of it
unfoldable pub decided_text : (test value : List ℕ) → PlainValue → Option Part → List ℕ
decided_text t x w o = t ++ (codes " is " ++ (x ++ (codes ", so " ++ result_text w o)))

-- A test that is told as its value, as a constant is, isn't told.
unfoldable pub chosen_by : (test value : List ℕ) → PlainValue → Option Part → Part
chosen_by t x w o = if same_bytes t x then passed w o else sentence (decided_text t x w o)

unfoldable pub shown_if : Option PlainJudgment → List ℕ
shown_if (Some j) = value_shown j.value
shown_if None = []

-- the first part decides, and the second is chosen
unfoldable pub chosen : View → PlainJudgment → List Part → Part
chosen v j ps = chosen_by (operand_text 0 (slice_get ps 0)) (shown_if (used v j.uses 0)) j.value (slice_get ps 1)

-- the piece that is tested
unfoldable pub tested_text : Option PlainTree → List ℕ
tested_text (Some e) = source e
tested_text None = codes "the test"

-- the judgment is not of the part that is tested
unfoldable pub is_found : (test : ℕ) → Option PlainJudgment → Bool
is_found p (Some j) = not (j.node == p)
is_found p None = false

-- The last use, where it is found, and the tests before it.
unfoldable pub tests_of : (found : Bool) → (uses : List ℕ) → List ℕ
tests_of found us = if found then take (length us - 1) us else us

unfoldable pub found_of : (found : Bool) → List Part → List Part
found_of found ps = if found then ps else []

-- tests of a part, and what comes of them
unfoldable pub tested_part : View → (test : ℕ) → (tests : List ℕ) → PlainValue → (chosen : List Part) → Part
tested_part v p us w ps = sentence (decided_text (tested_text (slice_get v.pieces p)) (runs_text (judgments_at v.judgments us)) w (slice_get ps 0))

unfoldable pub searched_by : View → (test : ℕ) → (found : Bool) → PlainJudgment → List Part → Part
searched_by v p found j ps =
    if length (tests_of found j.uses) == 0 then passed j.value (slice_get ps 0) else tested_part v p (tests_of found j.uses) j.value (found_of found ps)

abbrev pub searched : View → (test : ℕ) → PlainJudgment → List Part → Part
searched v p j ps = searched_by v p (is_found p (used v j.uses (length j.uses - 1))) j ps

-- what a judgment does, by the parts of those that it uses
unfoldable pub done : View → Does → PlainJudgment → List Part → Part
done v Asks j ps = tight (asked_text v.pieces j)
done v Constant j ps = tight (constant_shown j.value)
done v (Applies op) j ps = applied op ps
done v Passes j ps = passed j.value (slice_get ps 0)
done v Freezes j ps = frozen v j.uses ps
done v Chooses j ps = chosen v j ps
done v (Searches p) j ps = searched v p j ps

unfoldable pub by_node : View → PlainJudgment → (List ℕ → List Part) → Option Node → Part
by_node v j parts (Some n) = done v (does n) j (parts (told_uses (does n) j.uses))
by_node v j parts None = unknown

unfoldable pub by_judgment : View → (List ℕ → List Part) → Option PlainJudgment → Part
by_judgment v parts (Some j) = by_node v j parts (row_at v.table j.node)
by_judgment v parts None = unknown

-- The equation of the judgment of a number, so many levels deep.
unfoldable pub equation : (levels : ℕ) → View → (number : ℕ) → Part
equation zero v i = unknown
equation (suc n) v i = by_judgment v (map (equation n v)) (slice_get v.judgments i)
