-- What is said of the judgment with which a way ends: the place of its piece in the source, and why it has its value.
use Rattle.std.specs.Prelude.{ℕ, ◌+◌, ◌-◌, Bool, true, false, List, [], ◌++◌, length, map, drop, min, codes, decimal, Option, Some, None, slice_get}
use Rattle.lucid_value.specs.Plain.{PlainValue}
use Rattle.lucid_ops.specs.Rows.{operator_row}
use Rattle.lucid_tree.specs.declared.form.Form.{Form}
use Rattle.lucid_tree.specs.declared.form.Form.TheVariants as forms
use Rattle.lucid_tree.specs.declared.form.Decider.{Decider}
use Rattle.lucid_tree.specs.Forms.{form_row}
use Rattle.lucid_tree.specs.declared.form.Decider.TheVariants.{Point, Test, Target, Search}
use Rattle.lucid_tree.specs.Tree.{Head, const, apply, stream, PlainTree, form, name, call, block}
use Rattle.lucid_explain_run.specs.Parts.{own_place}
use Rattle.lucid_cert_rules.specs.Certificates.{PlainJudgment}
use Rattle.lucid_explain_places.specs.Shown.{place_text}
use Rattle.lucid_explain_run.specs.Pieces.{piece_of}
use Rattle.lucid_explain_errors.specs.declared.traced.Traced.{Traced}
use Rattle.lucid_explain_errors.specs.declared.traced.Traced.TheVariants.{Error, End}
use Rattle.lucid_explain_errors.specs.Causes.{cause_by, cause_text}
use Rattle.lucid_explain_errors.specs.declared.inputs.Input.{Input}
use Rattle.lucid_explain_errors.specs.Inputs.{line_of, line_seen_if}
use Rattle.lucid_explain_errors.specs.Ways.{value_at}
use Rattle.lucid_explain_errors.specs.Texts.{point_text, gets_text}
use Rattle.lucid_explain_errors.specs.Steps.{Told}

-- of a form over streams, by what decides and whether it looks at other spaces: what it wants of what it looked at last
abbrev pub wanted_text : Decider → (over_space : Bool) → List ℕ
wanted_text Point o = codes "there is no later time or space."
wanted_text Test o = codes "it wants `true` or `false`."
wanted_text Target false = codes "it wants a time, from 0 to 9223372036854775807."
wanted_text Target true = codes "it wants a space, from 0 to 9223372036854775807."
wanted_text Search o = codes "it wants `true` or `false` on its right side."

-- what may be meant instead
abbrev pub hint : Form → List ℕ
hint forms.And = codes " On both sides of it stands a test, as in `n > 1 and n < 5`."
hint forms.Or = codes " On both sides of it stands a test, as in `n eq 1 or n eq 2`."
hint forms.Asa = codes " The value of n at time 5 is `n attime 5`."
hint forms.Attime = codes " The value of n one time before is `(0 fby n)`, which is 0 at first."
hint _ = []

abbrev pub form_text : Form → List ℕ
form_text f = wanted_text (form_row f).decider (form_row f).over_space ++ (hint f ++ codes "\n")

-- the last of the values, if there are any
abbrev pub last_of : List PlainValue → List PlainValue
last_of vs = drop (length vs - 1) vs

-- at a point, what has this word gets values
abbrev pub got_text : (time space : ℕ) → (word : List ℕ) → List PlainValue → List ℕ
got_text t s word vs = point_text (codes "At time ") t s ++ (codes " `" ++ (word ++ (codes "`" ++ (gets_text vs ++ codes ": "))))

-- of an `error` of a form, at a point, by the values that it looked at
abbrev pub head_error : (time space : ℕ) → List PlainValue → Head → List ℕ
head_error t s vs (const v) = codes "Here `error` itself is written.\n"
head_error t s vs (apply op n) = got_text t s (operator_row op).spelling vs ++ cause_text op (cause_by op vs)
head_error t s vs (stream f) = got_text t s (form_row f).spelling (last_of vs) ++ form_text f

-- of a constant that is the end of data
abbrev pub head_end : Head → List ℕ
head_end (const v) = codes "Here `eod` itself is written.\n"
head_end (apply op n) = []
head_end (stream f) = []

abbrev pub head_cause : Traced → (time space : ℕ) → List PlainValue → Head → List ℕ
head_cause Error t s vs h = head_error t s vs h
head_cause End t s vs h = head_end h

-- of an input's element, which is that of a line, from 1
abbrev pub line_text : Traced → (line : ℕ) → List ℕ
line_text Error n =
    codes "Line " ++ (decimal n ++ codes " of this input is no value, or it is `error` itself. A value is an integer, as -12, a word without quotes, as red, a string, as `two words', a list, as [% 1 2 %], `true` or `false`. Of an input x, `x whenever not iserror x` has the other lines, and `x whenever not iserror x and isint x` the integers.\n")
line_text End n = codes "This input ends before line " ++ (decimal n ++ codes ", or that line is `eod` itself. At the last line of an input x `iseod next x` is true.\n")

-- of a piece, at a point, by the values that it looked at; the element at a time is that of the line after as many lines
abbrev pub piece_cause : Traced → (time space : ℕ) → List PlainValue → PlainTree → List ℕ
piece_cause x t s vs (form at h es) = head_cause x t s vs h
piece_cause x t s vs (name at n) = line_text x (t + 1)
piece_cause x t s vs (call at n es) = []
piece_cause x t s vs (block at e ds) = []

-- the line of an input that is `error`, where it is there
abbrev pub seen_text : Traced → Option (List ℕ) → List ℕ
seen_text Error line = line_seen_if line
seen_text End line = []

-- of a piece that is an input: its line for the element at a time
abbrev pub element_text : Traced → List Input → (time : ℕ) → PlainTree → List ℕ
element_text x inputs t (form at h es) = []
element_text x inputs t (name at n) = seen_text x (line_of inputs n t)
element_text x inputs t (call at n es) = []
element_text x inputs t (block at e ds) = []

-- the place of a piece
abbrev pub own_place_text : Told → PlainTree → List ℕ
own_place_text t e = place_text t.file t.source (min (length t.source) (own_place e))

-- of a judgment, by its piece and the values of its uses, and by the inputs
abbrev pub found_text : Told → PlainJudgment → Option PlainTree → List ℕ
found_text t j None = []
found_text t j (Some e) =
    own_place_text t e ++ (piece_cause t.traced j.time j.space (map (value_at t.judgments) j.uses) e ++ element_text t.traced t.inputs j.time e)

abbrev pub ending_text : Told → Option PlainJudgment → List ℕ
ending_text t None = []
ending_text t (Some j) = found_text t j (piece_of t.tree j.node)

abbrev pub ending_at : Told → (number : ℕ) → List ℕ
ending_at t i = ending_text t (slice_get t.judgments i)
