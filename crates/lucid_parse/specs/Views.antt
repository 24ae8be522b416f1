-- The terminals and the nodes that the code's terminals and nodes stand for.
use Rattle.std.specs.Prelude.{ℕ, List, map}
use Rattle.std.specs.Borrow.{Bor}
use Rattle.lucid_value.specs.Plain.{PlainValue}
use Rattle.lucid_value.specs.View.{plain}
use Rattle.lucid_value.specs.declared.Value.{Value}
use Rattle.lucid_parse.specs.declared.terminal.Terminal.{Terminal}
use Rattle.lucid_parse.specs.declared.terminal.TerminalAt.{TerminalAt}
use Rattle.lucid_parse.specs.declared.state.Item.{Item}
use Rattle.lucid_parse.specs.Grammar.{PlainTerminal, PlacedTerminal, terminal_at}
use Rattle.lucid_parse.specs.Machine.{PlainItem}
use Rattle.lucid_parse.specs.Fill.{fill_terminal, fill_item}

-- the bytes of a borrowed name, and the plain form of a borrowed value
abbrev pub name_now : Bor (List ℕ) → List ℕ
name_now name = name.now

abbrev pub value_now : Bor Value → PlainValue
value_now value = plain value.now

abbrev pub plain_terminal : Terminal (List ℕ) Value → PlainTerminal
plain_terminal terminal = fill_terminal (λ name. name) plain terminal

abbrev pub placed_of : TerminalAt → PlacedTerminal
placed_of placed = terminal_at (plain_terminal placed.terminal) placed.at

abbrev pub terminals_of : List TerminalAt → List PlacedTerminal
terminals_of terminals = map placed_of terminals

abbrev pub items_of : List (Item (Bor (List ℕ)) (Bor Value)) → List PlainItem
items_of items = map (fill_item name_now value_now) items
