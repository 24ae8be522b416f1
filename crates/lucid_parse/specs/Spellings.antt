-- The code's table of marks and reserved words, in its plain form.
use Rattle.std.specs.Prelude.{ℕ, List, [], true, false}
use Rattle.std.specs.declared.convert.Infallible.{Infallible}
use Rattle.lucid_value.specs.Plain.{PlainValue, truth, list, eod, fault, no_items}
use Rattle.lucid_parse.specs.declared.terminal.Terminal.{Terminal}
use Rattle.lucid_parse.specs.declared.spelling.FixedValue.{FixedValue}
use Rattle.lucid_parse.specs.declared.spelling.FixedValue.TheVariants as fixed
use Rattle.lucid_parse.specs.declared.spelling.Spelling.{Spelling}
use Rattle.lucid_parse.specs.Grammar.{PlainTerminal}
use Rattle.lucid_parse.specs.Fill.{fill_terminal}

abbrev pub fixed_value : FixedValue → PlainValue
fixed_value fixed.EmptyList = list no_items
fixed_value fixed.True = truth true
fixed_value fixed.False = truth false
fixed_value fixed.Eod = eod
fixed_value fixed.Error = fault

abbrev pub fixed_plain : Terminal Infallible FixedValue → PlainTerminal
fixed_plain terminal = fill_terminal (λ _. []) fixed_value terminal

abbrev pub pair_of : Spelling → List ℕ × PlainTerminal
pair_of spelling = (spelling.bytes.now, fixed_plain spelling.terminal)
