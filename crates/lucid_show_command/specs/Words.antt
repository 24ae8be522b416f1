-- What the words of the command that shows ask for: what other words of the command `lucid` do, or of a run of it its steps.
use Rattle.std.specs.Prelude.{ℕ, Bool, true, false, ◌||◌, ◌≡◌, option_and_then, List, [], ◌∷◌, ◌++◌, map, Option, Some, None, is_some, unwrap_or, if◌then◌else◌, codes}
use Rattle.std.specs.Option.{option_map}
use Rattle.std.specs.String.{string_bytes}
use Rattle.std.specs.Str.{bytes_eq}
use Rattle.clap.specs.Words.{App, Rule, Row, Text, new_app, all_of, fault_of, first_of, matches_of}
use Rattle.clap.specs.Simple.{on_top}
use Rattle.lucid_words.specs.Asked.{PlainWords, plain_words, where_taken, words_asked}
use Rattle.lucid_ports.specs.World.{World}
use Rattle.lucid_words.specs.declared.Words.{Words}
use Rattle.lucid_words.specs.Command.{flag, text_option, with_rules, positional_rules}
use Rattle.lucid_words.specs.Rows.{is_set}
use Rattle.lucid_top.specs.declared.task.Task.{Task}
use Rattle.lucid_top.specs.declared.task.Task.TheVariants.{Run, Why}
use Rattle.lucid_top.specs.Coming.{MayBegin}
use Rattle.lucid_top.specs.Tasks.{task_of}
use Rattle.lucid_show_command.specs.declared.form.Form.{Form}
use Rattle.lucid_show_command.specs.declared.form.Form.TheVariants.{Outline, Grid, Svg}
use Rattle.lucid_show_command.specs.declared.words.Asked.{Asked}
use Rattle.lucid_show_command.specs.declared.words.Asked.TheVariants as its
use Rattle.lucid_show_command.specs.declared.run_words.Steps.{Steps}
use Rattle.lucid_show_command.specs.declared.words.Wanted.{Wanted}

-- The command as `clap` is told of it.
abbrev pub show_rules : List Rule
show_rules = text_option (codes "at") ∷ text_option (codes "as") ∷ text_option (codes "depth") ∷ text_option (codes "names") ∷ text_option (codes "cells") ∷ []

abbrev pub steps_rules : List Rule
steps_rules = flag (codes "steps") ∷ text_option (codes "count") ∷ text_option (codes "policy") ∷ text_option (codes "age") ∷ text_option (codes "room") ∷ []

abbrev pub bare_command : App
bare_command = on_top (λ s. record s { no_binary_name = true; disable_help_flag = true; disable_version_flag = true })
    (new_app (codes "lucid_show"))

abbrev pub show_command : App
show_command = with_rules (with_rules (with_rules bare_command show_rules) steps_rules) positional_rules

-- an option with a value, where it is given
abbrev pub given_words : (word : Text) → Option Text → List Text
given_words word (Some value) = word ∷ value ∷ []
given_words word None = []

-- an option's value, or its default
abbrev pub text_or : (name default : Text) → List Row → Text
text_or name default rows = unwrap_or (first_of name rows) default

-- A certificate is asked for of the value at the time, which is 4 where none is given. The count is how much is shown at most: 2,000
-- lines or values where none is given.
unfoldable pub words_for : List Row → (program : Text) → List Text
words_for rows program =
    (codes "--why" ∷ text_or (codes "at") (codes "4") rows ∷ [])
    ++ ((codes "--count" ∷ text_or (codes "cells") (codes "2000") rows ∷ [])
    ++ (given_words (codes "--depth") (first_of (codes "depth") rows) ++ ((codes "--" ∷ program ∷ []) ++ unwrap_or (all_of (codes "input") rows) [])))

unfoldable pub is_why : Task → Bool
is_why Why = true
is_why _ = false

-- words of `lucid`, where they ask for a certificate
abbrev pub for_certificate : PlainWords → Option PlainWords
for_certificate w = if is_why (task_of w) then Some w else None

abbrev pub certificate_asked : List Text → Option PlainWords
certificate_asked words = option_and_then for_certificate (words_asked words)

-- The names of a list: those that `lucid` would take for columns.
abbrev pub list_words : (list program : Text) → List Text
list_words list program = codes "--columns" ∷ list ∷ codes "--" ∷ program ∷ []

abbrev pub names_in : (list program : Text) → Option (List Text)
names_in list program = option_map (λ (w : PlainWords). w.columns) (words_asked (list_words list program))

-- the names whose values are told: none are given where all are
abbrev pub names_asked : Option Text → (program : Text) → Option (List Text)
names_asked None program = Some []
names_asked (Some list) program = names_in list program

-- the form that a word names: lines, a grid of text, or a picture
unfoldable pub form_named : Text → Option Form
form_named word =
    if bytes_eq word (codes "outline") then Some Outline
    else if bytes_eq word (codes "grid") then Some Grid
    else if bytes_eq word (codes "svg") then Some Svg
    else None

-- the form that is asked for: the outline, where none is named
unfoldable pub form_asked : Option Text → Option Form
form_asked None = Some Outline
form_asked (Some word) = form_named word

-- Words of `lucid` that make a certificate, the names whose values are told, and the form.
pub record PlainWanted : Type 0 where
  pub words : PlainWords
  pub names : List Text
  pub form : Form

abbrev pub plain_wanted : Wanted → PlainWanted
plain_wanted w = record { words = plain_words w.words; names = w.names.items; form = w.form }

abbrev pub of_words : Option PlainWords → Option (List Text) → Option Form → Option PlainWanted
of_words (Some w) (Some ns) (Some f) = Some (record { words = w; names = ns; form = f })
of_words (Some w) (Some ns) None = None
of_words (Some w) None form = None
of_words None names form = None

abbrev pub of_program : List Row → (program : Text) → Option PlainWanted
of_program rows program =
    of_words (certificate_asked (words_for rows program)) (names_asked (first_of (codes "names") rows) program) (form_asked (first_of (codes "as") rows))

abbrev pub of_given : List Row → Option Text → Option PlainWanted
of_given rows (Some program) = of_program rows program
of_given rows None = None

-- A run is asked for by those of its options that are given.
unfoldable pub run_words : List Row → (program : Text) → List Text
run_words rows program =
    given_words (codes "--count") (first_of (codes "count") rows)
    ++ (given_words (codes "--policy") (first_of (codes "policy") rows)
    ++ (given_words (codes "--age") (first_of (codes "age") rows)
    ++ (given_words (codes "--room") (first_of (codes "room") rows)
    ++ (given_words (codes "--depth") (first_of (codes "depth") rows) ++ ((codes "--" ∷ program ∷ []) ++ unwrap_or (all_of (codes "input") rows) [])))))

unfoldable pub is_run : Task → Bool
is_run Run = true
is_run _ = false

-- words of `lucid`, where they ask for a run
abbrev pub for_run : PlainWords → Option PlainWords
for_run w = if is_run (task_of w) then Some w else None

abbrev pub run_asked : List Text → Option PlainWords
run_asked words = option_and_then for_run (words_asked words)

-- How many lines of values are told at most: a number that `lucid` would take for a count.
abbrev pub count_words : (number program : Text) → List Text
count_words number program = codes "--count" ∷ number ∷ codes "--" ∷ program ∷ []

abbrev pub number_in : (number program : Text) → Option ℕ
number_in number program = option_map (λ (w : PlainWords). w.count) (words_asked (count_words number program))

-- The words of `lucid` that run a program, its file, and how many lines of values are told at most.
pub record PlainSteps : Type 0 where
  pub words : List Text
  pub program : Text
  pub most : ℕ

abbrev pub plain_steps : Steps → PlainSteps
plain_steps s = record { words = map string_bytes s.words.items; program = string_bytes s.program; most = s.most }

abbrev pub of_run : (words : List Text) → (program : Text) → Option PlainWords → (most : Option ℕ) → Option PlainSteps
of_run words program (Some w) (Some n) = Some (record { words = words; program = program; most = n })
of_run words program (Some w) None = None
of_run words program None most = None

abbrev pub steps_of_program : List Row → (program : Text) → Option PlainSteps
steps_of_program rows program =
    of_run (run_words rows program) program (run_asked (run_words rows program)) (number_in (text_or (codes "cells") (codes "2000") rows) program)

abbrev pub steps_of_given : List Row → Option Text → Option PlainSteps
steps_of_given rows (Some program) = steps_of_program rows program
steps_of_given rows None = None

-- A value, by what it was computed from; a run, by its steps; or options that don't go together, by the line that tells so.
pub data PlainAsked : Type 0 where
  value : PlainWanted → PlainAsked
  steps : PlainSteps → PlainAsked
  misplaced : (line : List ℕ) → PlainAsked

abbrev pub plain_asked : Asked → PlainAsked
plain_asked (its.Value wanted) = value (plain_wanted wanted)
plain_asked (its.Steps run) = steps (plain_steps run)
plain_asked (its.Misplaced line) = misplaced line.now

-- an option is given
abbrev pub is_given : (name : Text) → List Row → Bool
is_given name rows = is_some (first_of name rows)

-- an option of a value alone, and one of a run alone
abbrev pub has_value_option : List Row → Bool
has_value_option rows = is_given (codes "at") rows || (is_given (codes "as") rows || is_given (codes "names") rows)

abbrev pub has_run_option : List Row → Bool
has_run_option rows =
    is_given (codes "count") rows || (is_given (codes "policy") rows || (is_given (codes "age") rows || is_given (codes "room") rows))

abbrev pub beside_text : List ℕ
beside_text = codes "usage: lucid_show --steps takes no --at, --as or --names: these are for one value\n"

abbrev pub alone_text : List ℕ
alone_text = codes "usage: lucid_show takes --count, --policy, --age and --room with --steps alone\n"

abbrev pub steps_shown : List Row → Option PlainAsked
steps_shown rows = if has_value_option rows then Some (misplaced beside_text) else option_map steps (steps_of_given rows (first_of (codes "program") rows))

abbrev pub value_shown : List Row → Option PlainAsked
value_shown rows = if has_run_option rows then Some (misplaced alone_text) else option_map value (of_given rows (first_of (codes "program") rows))

-- What rows ask for.
abbrev pub words_shown : List Row → Option PlainAsked
words_shown rows = if is_set (codes "steps") rows then steps_shown rows else value_shown rows

-- A certificate may be made by the words.
abbrev pub MayCertify : Words → Type 0
MayCertify w = (v : World) → v.reached ≡ 0 → MayBegin w Why v

abbrev pub MayMake : Wanted → Type 0
MayMake w = MayCertify w.words

abbrev pub MayShow : Asked → Type 0
MayShow (its.Value wanted) = MayMake wanted
MayShow (its.Steps run) = Unit {0}
MayShow (its.Misplaced line) = Unit {0}

-- What words ask for: nothing where `clap` refuses them.
unfoldable pub asked : List Text → Option PlainAsked
asked words = where_taken (fault_of show_command words) (words_shown (matches_of show_command words))
