-- An integer and a string are what they read as.
use Rattle.lucid_parse.proofs.Texts.{int_has, text_has, int_stands, text_stands}
use Rattle.lucid_parse.proofs.terminals.read_terminal.Goals as goal

pub make_value-requires : goal.make_value-requires
make_value-requires c = int_has c.args.bytes.now (rw c.in-Int.is at c.requires)

pub make_value-requires-in-Text : goal.make_value-requires-in-Text
make_value-requires-in-Text c = text_has c.args.bytes.now (rw c.in-Text.is at c.requires)

pub returns-in_ok-make_value-in-Int-clause-terminal : goal.returns-in_ok-make_value-in-Int-clause-terminal
returns-in_ok-make_value-in-Int-clause-terminal c =
    rw c.in-Int.is (int_stands c.args.bytes.now _ (rw c.in-Int.is at c.requires) c.in_ok-make_value-in-Int.ensures.value)

pub returns-in_ok-make_value-in-Text-clause-terminal : goal.returns-in_ok-make_value-in-Text-clause-terminal
returns-in_ok-make_value-in-Text-clause-terminal c =
    rw c.in-Text.is (text_stands c.args.bytes.now _ (rw c.in-Text.is at c.requires) c.in_ok-make_value-in-Text.ensures.value)
