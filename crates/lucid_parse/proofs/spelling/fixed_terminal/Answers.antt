-- The table of forms is the list of forms, and a mark or a reserved word that isn't in it spells an operator.
use Rattle.lucid_parse.proofs.Common.{◌≡◌, ℕ, List, Option, None, sym, ◌∙◌, ap, option_map, Operator, form_terminals, terminal_in, fixed_terminal, option_or}
use Rattle.lucid_parse.specs.Operators.{spelled}
use Rattle.lucid_parse.specs.declared.terminal.Terminal.TheVariants as terminal
use Rattle.lucid_parse.proofs.Spellings.{has_terminal}
use Rattle.lucid_parse.proofs.spelling.fixed_terminal.Goals as goal

spelled_so : (bytes : List ℕ) (found : Option Operator) → found ≡ spelled bytes → None ≡ terminal_in bytes form_terminals
    → fixed_terminal bytes ≡ option_map terminal.Operator found
spelled_so bytes found e f = sym (ap (λ o. option_map terminal.Operator o) e ∙ ap (λ o. option_or o (option_map terminal.Operator (spelled bytes))) f)

pub returns-in-Some : goal.returns-in-Some
unfolding form_terminals
returns-in-Some c = sym (ap (λ o. option_or o (option_map terminal.Operator (spelled c.args.bytes.now))) c.in-Some.ensures)

pub returns-in-Some-find : goal.returns-in-Some-find
unfolding form_terminals
returns-in-Some-find c = spelled_so c.args.bytes.now _ c.in-Some-find.ensures c.in-None.ensures

pub unreachable-requires : goal.unreachable-requires
unfolding form_terminals
unreachable-requires c = has_terminal c.args.bytes.now c.requires (spelled_so c.args.bytes.now _ c.in-None-find.ensures c.in-None.ensures)
