-- What is shown of a program: a certificate of its value at the time that is asked for, or the steps of a run.
use Rattle.std.specs.Prelude.{◌≡◌, ℕ, ◌-◌, ◌++◌, List, [], length, codes, Option, Some, None, Result, Ok, Err}
use Rattle.std.specs.declared.alloc.AllocError.{AllocError}
use Rattle.lucid_tree.specs.Tree.{PlainTree}
use Rattle.lucid_ports.specs.World.{World}
use Rattle.lucid_compile.specs.Settled.{table_of}
use Rattle.lucid_cert_rules.specs.WhyTexts.{IsTextOf}
use Rattle.lucid_cert_rules.specs.declared.rows.Why.{Why}
use Rattle.lucid_words.specs.Asked.{PlainWords}
use Rattle.lucid_words.specs.declared.WordsRefusal.{WordsRefusal}
use Rattle.lucid_words.specs.declared.WordsRefusal.TheVariants as refusal
use Rattle.lucid_session.specs.Runs.{PolicyView}
use Rattle.lucid_ports.specs.Told.{Told}
use Rattle.lucid_report.specs.Status.{Outcome}
use Rattle.lucid_explain_report.specs.Files.{Files}
use Rattle.lucid_explain_source.specs.Scopes.{all_defs}
use Rattle.lucid_report.specs.Telling.{Tells}
use Rattle.lucid_report.specs.declared.status.Status.{Status}
use Rattle.lucid_report.specs.declared.status.Status.TheVariants as status
use Rattle.lucid_report.specs.declared.stop.Done.{Done}
use Rattle.lucid_report.specs.declared.stop.Stop.{Stop}
use Rattle.lucid_report.specs.declared.stop.Stop.TheVariants as stop
use Rattle.lucid_top.specs.Call.{Call, call_under}
use Rattle.lucid_top.specs.Coming.{Does}
use Rattle.lucid_top.specs.Judged.{HasInputs}
use Rattle.lucid_top.specs.Places.{IsAccepted}
use Rattle.lucid_top.specs.Writing.{WritesOnly}
use Rattle.lucid_show_outline.specs.Views.{View, view}
use Rattle.lucid_show_outline.specs.Lines.{IsOutline}
use Rattle.lucid_show_grid.specs.Grids.{PlainGrid}
use Rattle.lucid_show_grid.specs.Text.{grid_text}
use Rattle.lucid_show_grid.specs.Picture.{picture_text}
use Rattle.lucid_show_drawing.specs.Drawings.{IsGridOf}
use Rattle.lucid_show_command.specs.declared.form.Form.{Form}
use Rattle.lucid_show_command.specs.declared.form.Form.TheVariants as form
use Rattle.lucid_show_command.specs.declared.showing.Drawn.{Drawn}
use Rattle.lucid_show_command.specs.declared.showing.Drawn.TheVariants as drawn
use Rattle.lucid_show_command.specs.Named.{first_unknown}
use Rattle.lucid_show_command.specs.Running.{ShowsRun, TellsLine, in_memory}
use Rattle.lucid_show_command.specs.Words.{PlainAsked, PlainSteps, PlainWanted, misplaced, steps, value}

-- a call of `lucid` by these words that writes these bytes into memory
abbrev pub call_in_memory : PolicyView → PlainWords → (before after : World) → (bytes : List ℕ) → (faults late : ℕ) → Call
call_in_memory policy words before after bytes faults late = call_under policy (Some words) before after (in_memory [] 0 0) (in_memory bytes faults late)

-- The command `lucid` comes to the outcome, where the words ask it for a certificate, and writes these bytes into memory.
pub record MakesInMemory (words : PlainWords) (before after : World) (bytes : List ℕ) (o : Outcome) : Type 0 where
  pub faults : ℕ
  pub late : ℕ
  pub does : (policy : PolicyView) → Does (call_in_memory policy words before after bytes faults late) o

-- The text shows a grid of the last judgment, by a way to draw grids.
abbrev pub IsOfGrid : (PlainGrid → List ℕ) → View → (most : ℕ) → (text : List ℕ) → Type 0
IsOfGrid drawn v most text = (g : PlainGrid) × IsGridOf v most (length v.judgments - 1) g × (text ≡ drawn g)

-- The text shows the last judgment in a form, with so many lines or values at most.
abbrev pub IsDrawing : Form → View → (most : ℕ) → (text : List ℕ) → Type 0
IsDrawing form.Outline v most text = IsOutline v most text
IsDrawing form.Grid v most text = IsOfGrid grid_text v most text
IsDrawing form.Svg v most text = IsOfGrid picture_text v most text

-- The text shows the certificate with these bytes as it is wanted, by the table of a tree with these inputs.
abbrev pub Draws : PlainTree → (inputs : List (List ℕ)) → (certificate : List ℕ) → (wanted : PlainWanted) → (text : List ℕ) → Type 0
Draws e inputs certificate wanted text =
    (w : Why) × IsTextOf certificate w × IsDrawing wanted.form (view (table_of e inputs) e w wanted.names) wanted.words.count text

-- the line that tells a name which the program hasn't
abbrev pub no_name_text : (name : List ℕ) → List ℕ
no_name_text name = codes "no name " ++ (name ++ codes "\n")

-- the first wanted name that a tree with these inputs hasn't
abbrev pub unknown_in : PlainTree → (inputs : List (List ℕ)) → PlainWanted → Option (List ℕ)
unknown_in e inputs wanted = first_unknown (all_defs e) inputs wanted.names

-- what is drawn of a certificate: a text that shows it, or the line that tells the first wanted name which the program hasn't
abbrev pub IsDrawn : PlainTree → (inputs : List (List ℕ)) → (certificate : List ℕ) → PlainWanted → Drawn → Type 0
IsDrawn e inputs certificate wanted (drawn.Text text) = (unknown_in e inputs wanted ≡ None) × Draws e inputs certificate wanted text.items
IsDrawn e inputs certificate wanted (drawn.NoName line) = (name : List ℕ) × (unknown_in e inputs wanted ≡ Some name) × (line.items ≡ no_name_text name)

-- The text that is drawn is written, and its outcome told; the line is told; or that there is no memory.
abbrev pub TellsDrawn : Result Drawn AllocError → (out_before out_after report_before report_after : Told) → Status → Type 0
TellsDrawn (Ok (drawn.Text text)) out_before out_after report_before report_after s =
    (o : Outcome) × WritesOnly (λ written. written ≡ text.items) out_before out_after o × Tells o s report_before report_after
TellsDrawn (Ok (drawn.NoName line)) out_before out_after report_before report_after s =
    (out_after.bytes ≡ out_before.bytes) × TellsLine line.items status.Refused s report_before report_after
TellsDrawn (Err error) out_before out_after report_before report_after s =
    (out_after.bytes ≡ out_before.bytes) × Tells (Err stop.NoMemory) s report_before report_after

-- What comes of a certificate that was made, of the tree that the words' source is accepted as. What shows it is written; where a write failed, a
-- front of it. Where a name is wanted that the program hasn't, nothing is written and the first such name is told.
pub data ShowsMade (wanted : PlainWanted) (before : World) (certificate : List ℕ) (out_before out_after report_before report_after : Told) (s : Status)
    : Type 0 where
  draws : (e : PlainTree) (inputs : List (List ℕ)) → IsAccepted wanted.words.source before e → HasInputs e inputs → unknown_in e inputs wanted ≡ None
      → (o : Outcome) → WritesOnly (Draws e inputs certificate wanted) out_before out_after o → Tells o s report_before report_after
      → ShowsMade wanted before certificate out_before out_after report_before report_after s
  no_name : (e : PlainTree) (inputs : List (List ℕ)) → IsAccepted wanted.words.source before e → HasInputs e inputs → (name : List ℕ)
      → unknown_in e inputs wanted ≡ Some name → out_after.bytes ≡ out_before.bytes → TellsLine (no_name_text name) status.Refused s report_before report_after
      → ShowsMade wanted before certificate out_before out_after report_before report_after s
  no_memory : out_after.bytes ≡ out_before.bytes → Tells (Err stop.NoMemory) s report_before report_after
      → ShowsMade wanted before certificate out_before out_after report_before report_after s

-- What comes of words that are read. A certificate is made as `lucid` makes it. Where none is, nothing is written, and the outcome of the making is
-- told. Else the certificate is shown.
pub record Shown (wanted : PlainWanted) (before after : World) (out_before out_after report_before report_after : Told) (s : Status) : Type 0 where
  pub made : Outcome
  pub certificate : List ℕ
  pub makes : MakesInMemory wanted.words before after certificate made
  pub stopped : (why : Stop) → made ≡ Err why → (out_after.bytes ≡ out_before.bytes) × Tells (Err why) s report_before report_after
  pub shows : (done : Done) → made ≡ Ok done → ShowsMade wanted before certificate out_before out_after report_before report_after s

abbrev pub usage_text : List ℕ
usage_text = codes "usage: lucid_show [--at T] [--as outline|grid|svg] [--depth N] [--names LIST] [--cells N] PROGRAM [NAME=FILE]... | lucid_show --steps [--count N] [--policy keep|none|age|last] [--age K] [--room N] [--depth N] [--cells N] PROGRAM [NAME=FILE]...\n"

-- the usage of this command is told
abbrev pub TellsUsage : Status → (before after : Told) → Type 0
TellsUsage = TellsLine usage_text status.Usage

-- why words weren't read
abbrev pub TellsRefused : WordsRefusal → Status → (before after : Told) → Type 0
TellsRefused refusal.Usage s before after = TellsUsage s before after
TellsRefused refusal.NoMemory s before after = Tells (Err stop.NoMemory) s before after

-- A call of the command that shows. Words that are refused are told by the usage of this command, and options that don't go together by a line that
-- tells so; nothing is read then, and nothing is written. Else what they ask for is shown, and told as the command `lucid` tells it.
pub data ShowsAsked (files : Files) (before after : World) (out_before out_after report_before report_after : Told) (s : Status)
    : (asked : Option PlainAsked) → Type 0 where
  refused : after ≡ before → out_after.bytes ≡ out_before.bytes → TellsUsage s report_before report_after
      → ShowsAsked files before after out_before out_after report_before report_after s None
  misplaces : {line : List ℕ} → after ≡ before → out_after.bytes ≡ out_before.bytes → TellsLine line status.Usage s report_before report_after
      → ShowsAsked files before after out_before out_after report_before report_after s (Some (misplaced line))
  shown : {wanted : PlainWanted} → Shown wanted before after out_before out_after report_before report_after s
      → ShowsAsked files before after out_before out_after report_before report_after s (Some (value wanted))
  ran : {wanted : PlainSteps} → ShowsRun files wanted before after out_before out_after report_before report_after s
      → ShowsAsked files before after out_before out_after report_before report_after s (Some (steps wanted))
  no_memory : {asked : Option PlainAsked} → after ≡ before → out_after.bytes ≡ out_before.bytes → Tells (Err stop.NoMemory) s report_before report_after
      → ShowsAsked files before after out_before out_after report_before report_after s asked

-- A text is written, and nothing is read.
pub record Says (text : List ℕ) (before after : World) (out_before out_after report_before report_after : Told) (s : Status) : Type 0 where
  pub outcome : Outcome
  pub unread : after ≡ before
  pub writes : WritesOnly (λ written. written ≡ text) out_before out_after outcome
  pub tells : Tells outcome s report_before report_after

-- A text is said where one is asked for; else what is asked for is shown.
abbrev pub SaysOrShows : Files → (before after : World) (out_before out_after report_before report_after : Told) → Status → (text : Option (List ℕ))
    → (asked : Option PlainAsked) → Type 0
SaysOrShows files before after out_before out_after report_before report_after s (Some text) asked =
    Says text before after out_before out_after report_before report_after s
SaysOrShows files before after out_before out_after report_before report_after s None asked =
    ShowsAsked files before after out_before out_after report_before report_after s asked
