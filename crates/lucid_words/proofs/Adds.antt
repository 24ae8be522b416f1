-- A command with one more argument.
use Rattle.lucid_words.proofs.Common.{◌≡◌, ◌∙◌, false, Arg, Command, ap₂}
use Rattle.clap.specs.Words.{AddsArg, App, Rule, app_of, rule_of, with_rule}

pub adds : (old new : Command) (arg : Arg) (before : App) (rule : Rule) → AddsArg old arg new → arg.global ≡ false → rule_of arg ≡ rule → app_of old ≡ before
    → app_of new ≡ with_rule before rule
adds old new arg before rule added local same was = added.shape local ∙ ap₂ with_rule was same
