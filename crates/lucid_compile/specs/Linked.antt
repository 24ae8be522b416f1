-- The rows with numbers for the places of what they name.
use Rattle.std.specs.Prelude.{map}
use Rattle.lucid_equations.specs.declared.rows.Node.{Node}
use Rattle.lucid_equations.specs.declared.rows.Node.TheVariants.{Refer, Call}
use Rattle.lucid_equations.specs.declared.rows.NodeRow.{NodeRow}
use Rattle.lucid_equations.specs.declared.rows.PlaceRow.{PlaceRow}
use Rattle.lucid_compile.specs.declared.building.Rows.{Rows}
use Rattle.lucid_compile.specs.Numbered.{name_mark}
use Rattle.lucid_compile.specs.Bound.{Numbered, name_node, call_node}
use Rattle.lucid_compile.specs.Building.{Lists, lists}

-- a name has its own place for its number, and a call has that of its first actual for its call place's
abbrev pub linked_node : Numbered → Node → Node
linked_node w (Refer at l) = name_node w at
linked_node w (Call at first l) = call_node w at first
linked_node w n = n

abbrev pub linked_row : Numbered → NodeRow → NodeRow
linked_row w r = record { scope = r.scope; node = linked_node w r.node }

-- a call place has the place of its call
abbrev pub linked_place : Numbered → PlaceRow → PlaceRow
linked_place w p = record { scope = p.scope; name = (name_mark w.numbering p.name).number; actuals = p.actuals }

abbrev pub link : Numbered → Lists → Lists
link w l = record { scopes = l.scopes; constants = l.constants; nodes = map (linked_row w) l.nodes; names = l.names; places = map (linked_place w) l.places; bodies = l.bodies; keys = l.keys }

abbrev pub linked : Numbered → Rows → Lists
linked w r = link w (lists r)
