-- The command line as `clap` is told of it: one simple command without help and version flags.
use Rattle.std.specs.Prelude.{ℕ, ◌-◌, ◌^◌, true, List, [], ◌∷◌, Some, Result, IfOk, ◌≡◌, codes, pos, fold}
use Rattle.clap.specs.Words.{App, Rule, Text, app_of, new_app, new_rule, with_rule}
use Rattle.clap.specs.Simple.{on_top}
use Rattle.lucid_ports.specs.Limits.{most_asked}
use Rattle.clap.specs.declared.builder.action.ArgAction.TheVariants.{Append, SetTrue}
use Rattle.clap.specs.declared.builder.command.Command.{Command}
use Rattle.clap.specs.declared.builder.value_parser.ValueParser.{ValueParser}
use Rattle.clap.specs.declared.builder.value_parser.ValueParser.TheVariants as vp

-- An option of this long name with any text as its value.
abbrev pub text_option : Text → Rule
text_option name = record (new_rule name) { long = Some name }

-- An option of this long name whose value the parser accepts.
abbrev pub parsed_option : Text → ValueParser → Rule
parsed_option name parser = record (text_option name) { parser = Some parser }

-- An option of this long name with a number from 1 to `most`.
abbrev pub number_option : Text → ℕ → Rule
number_option name most = parsed_option name (vp.Signed (pos 1) (pos most))

-- An option of this long name with a time: a number from 0 to 2^63 - 1.
abbrev pub time_option : Text → Rule
time_option name = parsed_option name (vp.Unsigned 0 (2 ^ 63 - 1))

-- A flag of this long name.
abbrev pub flag : Text → Rule
flag name = record (text_option name) { action = Some SetTrue }

-- The options of a run: how many lines, how deep, which policy and its numbers, and what else is written.
abbrev pub run_rules : List Rule
run_rules =
    number_option (codes "count") most_asked ∷ number_option (codes "depth") most_asked ∷ text_option (codes "policy")
    ∷ number_option (codes "age") most_asked ∷ number_option (codes "room") most_asked ∷ flag (codes "stats") ∷ []

-- The options that ask for something else than a run of one stream, or for another source.
abbrev pub mode_rules : List Rule
mode_rules =
    flag (codes "print") ∷ number_option (codes "make") 10000 ∷ text_option (codes "columns") ∷ flag (codes "cycles")
    ∷ time_option (codes "why") ∷ text_option (codes "check") ∷ flag (codes "flat")
    ∷ flag (codes "from-flat") ∷ []

-- The program, and then any number of inputs.
abbrev pub positional_rules : List Rule
positional_rules = new_rule (codes "program") ∷ record (new_rule (codes "input")) { action = Some Append } ∷ []

-- A command with further arguments, in order.
abbrev pub with_rules : App → List Rule → App
with_rules = fold with_rule

-- What was made of a command, where it could be made, is this command with further arguments, in order.
abbrev pub AddsRules : {E : Type 0} → List Rule → Result Command E → Result Command E → Type 0
AddsRules rules before after = (app : App) → IfOk before (λ c. app_of c ≡ app) → IfOk after (λ c. app_of c ≡ with_rules app rules)

-- The command without an argument: the words do not begin with the program's own name, and there is no help flag.
abbrev pub bare_command : App
bare_command = on_top (λ s. record s { no_binary_name = true; disable_help_flag = true; disable_version_flag = true })
    (new_app (codes "lucid"))

-- The whole command.
abbrev pub lucid_command : App
lucid_command = with_rules (with_rules (with_rules bare_command run_rules) mode_rules) positional_rules
