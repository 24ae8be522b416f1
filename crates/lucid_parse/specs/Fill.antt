-- What the parser keeps, with its names and its values read through two functions.
use Rattle.std.specs.Prelude.{map}
use Rattle.lucid_parse.specs.declared.terminal.Terminal.{Terminal}
use Rattle.lucid_parse.specs.declared.terminal.Terminal.TheVariants as terminal
use Rattle.lucid_parse.specs.declared.state.Definition.{Definition}
use Rattle.lucid_parse.specs.declared.state.Frame.{Frame}
use Rattle.lucid_parse.specs.declared.state.Frame.TheVariants as frame
use Rattle.lucid_parse.specs.declared.state.Focus.{Focus}
use Rattle.lucid_parse.specs.declared.state.Focus.TheVariants as focus
use Rattle.lucid_parse.specs.declared.state.Item.{Item}
use Rattle.lucid_parse.specs.declared.state.Item.TheVariants as item
use Rattle.lucid_parse.specs.Machine.{State, state, definition_in}

abbrev pub fill_terminal : {M N V W : Type 0} → (M → N) → (V → W) → Terminal M V → Terminal N W
fill_terminal on_name on_value (terminal.Name name) = terminal.Name (on_name name)
fill_terminal on_name on_value (terminal.Const value) = terminal.Const (on_value value)
fill_terminal on_name on_value (terminal.Operator operator) = terminal.Operator operator
fill_terminal on_name on_value terminal.Minus = terminal.Minus
fill_terminal on_name on_value terminal.Is = terminal.Is
fill_terminal on_name on_value terminal.Current = terminal.Current
fill_terminal on_name on_value terminal.Where = terminal.Where
fill_terminal on_name on_value terminal.End = terminal.End
fill_terminal on_name on_value terminal.If = terminal.If
fill_terminal on_name on_value terminal.Then = terminal.Then
fill_terminal on_name on_value terminal.Else = terminal.Else
fill_terminal on_name on_value terminal.Fi = terminal.Fi
fill_terminal on_name on_value terminal.Open = terminal.Open
fill_terminal on_name on_value terminal.Close = terminal.Close
fill_terminal on_name on_value terminal.Comma = terminal.Comma
fill_terminal on_name on_value terminal.Semicolon = terminal.Semicolon
fill_terminal on_name on_value terminal.Equals = terminal.Equals

abbrev pub fill_definition : {M N : Type 0} → (M → N) → Definition M → Definition N
fill_definition on_name this = definition_in this.block this.at (on_name this.name)

abbrev pub fill_frame : {M N : Type 0} → (M → N) → Frame M → Frame N
fill_frame on_name (frame.Operator operator at allowed) = frame.Operator operator at allowed
fill_frame on_name (frame.Parenthesis allowed) = frame.Parenthesis allowed
fill_frame on_name (frame.Test at allowed) = frame.Test at allowed
fill_frame on_name (frame.Yes at allowed) = frame.Yes at allowed
fill_frame on_name (frame.No at allowed) = frame.No at allowed
fill_frame on_name (frame.Arguments at name allowed) = frame.Arguments at (on_name name) allowed
fill_frame on_name (frame.Operands called more) = frame.Operands called more
fill_frame on_name (frame.RightSide defines this) = frame.RightSide defines (fill_definition on_name this)

abbrev pub fill_focus : {M N : Type 0} → (M → N) → Focus M → Focus N
fill_focus on_name (focus.Await allowed) = focus.Await allowed
fill_focus on_name (focus.Named at name allowed) = focus.Named at (on_name name) allowed
fill_focus on_name (focus.Opens called) = focus.Opens called
fill_focus on_name (focus.Have level allowed) = focus.Have level allowed
fill_focus on_name (focus.Heads block) = focus.Heads block
fill_focus on_name (focus.Headed this) = focus.Headed (fill_definition on_name this)
fill_focus on_name (focus.Frozen this) = focus.Frozen (fill_definition on_name this)
fill_focus on_name (focus.Names this) = focus.Names (fill_definition on_name this)
fill_focus on_name (focus.Listed this) = focus.Listed (fill_definition on_name this)
fill_focus on_name (focus.Ready this) = focus.Ready (fill_definition on_name this)

abbrev pub fill_item : {M N V W : Type 0} → (M → N) → (V → W) → Item M V → Item N W
fill_item on_name on_value (item.Const at value) = item.Const at (on_value value)
fill_item on_name on_value (item.Name at name) = item.Name at (on_name name)
fill_item on_name on_value (item.Operator operator at) = item.Operator operator at
fill_item on_name on_value item.NoTrees = item.NoTrees
fill_item on_name on_value item.More = item.More
fill_item on_name on_value (item.Call at name) = item.Call at (on_name name)
fill_item on_name on_value item.NoNames = item.NoNames
fill_item on_name on_value (item.Param at name) = item.Param at (on_name name)
fill_item on_name on_value item.NoDefs = item.NoDefs
fill_item on_name on_value (item.Def defines at name) = item.Def defines at (on_name name)
fill_item on_name on_value (item.Block at) = item.Block at

abbrev pub fill_state : {M N V W : Type 0} → (M → N) → (V → W) → State M V → State N W
fill_state on_name on_value machine = state (fill_focus on_name machine.focus) (map (fill_frame on_name) machine.frames) (map (fill_item on_name on_value) machine.out)
