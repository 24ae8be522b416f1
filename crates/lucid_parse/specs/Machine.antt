-- The parser as a machine over terminals. It keeps what is open, and writes the nodes behind their parts.
use Rattle.std.specs.Prelude.{◌≡◌, ℕ, List, [], ◌∷◌, ◌++◌, Option, Some, None, Bool, cond, ◌&&◌, nat_le, nat_eq, ◌-◌, option_and_then, Result, Ok, Err}
use Rattle.lucid_value.specs.Plain.{PlainValue}
use Rattle.lucid_ops.specs.declared.op.Form.TheVariants.{Before, Between, Called}
use Rattle.lucid_parse.specs.declared.terminal.Terminal.{Terminal}
use Rattle.lucid_parse.specs.declared.terminal.Terminal.TheVariants as terminal
use Rattle.lucid_parse.specs.declared.state.Defines.TheVariants as kind
use Rattle.lucid_parse.specs.declared.state.CalledOperator.{CalledOperator}
use Rattle.lucid_parse.specs.declared.state.Definition.{Definition}
use Rattle.lucid_parse.specs.declared.state.Frame.{Frame}
use Rattle.lucid_parse.specs.declared.state.Frame.TheVariants as frame
use Rattle.lucid_parse.specs.declared.state.Focus.{Focus}
use Rattle.lucid_parse.specs.declared.state.Focus.TheVariants as focus
use Rattle.lucid_parse.specs.declared.state.Item.{Item}
use Rattle.lucid_parse.specs.declared.state.Item.TheVariants as item
use Rattle.lucid_parse.specs.declared.operator.Operator.{Operator}
use Rattle.lucid_parse.specs.declared.operator.Operator.TheVariants.{Stream}
use Rattle.lucid_tree.specs.declared.form.Form.TheVariants as forms
use Rattle.lucid_parse.specs.Grammar.{PlacedTerminal, level_of, arity_of, left, right, operator_in}

-- what comes next, what is open (the innermost first), what is written
pub record State (N V : Type 0) : Type 0 where
  pub focus : Focus N
  pub frames : List (Frame N)
  pub out : List (Item N V)

abbrev pub state : {N V : Type 0} → Focus N → List (Frame N) → List (Item N V) → State N V
state focus frames out = record { focus = focus; frames = frames; out = out }

-- a called operator at a place that allows a level, and a definition of the block at a place
abbrev pub called_at : Operator → (at allowed : ℕ) → CalledOperator
called_at operator at allowed = record { op = operator; at = at; allowed = allowed }

abbrev pub definition_in : {N : Type 0} → (block at : ℕ) → N → Definition N
definition_in block at name = record { block = block; at = at; name = name }

-- what the machine keeps, over names as bytes and constants as values
abbrev pub PlainFrame : Type 0
PlainFrame = Frame (List ℕ)

abbrev pub PlainFocus : Type 0
PlainFocus = Focus (List ℕ)

abbrev pub PlainItem : Type 0
PlainItem = Item (List ℕ) PlainValue

abbrev pub PlainState : Type 0
PlainState = State (List ℕ) PlainValue

-- whether the operator may take an operand of this level in a place that allows a level
abbrev pub takes : Operator → (level allowed : ℕ) → Bool
takes operator level allowed = nat_le (left operator) level && nat_le allowed (level_of operator)

abbrev pub taken : {N V : Type 0} → Operator → (at level allowed : ℕ) → List (Frame N) → List (Item N V) → Option (State N V) → Option (State N V)
taken operator at level allowed frames out other = cond (takes operator level allowed) (Some (state (focus.Await (right operator)) (frame.Operator operator at allowed ∷ frames) out)) other

-- an operator after an operand of this level in a place that allows a level
abbrev pub shift : {N V : Type 0} → Operator → (at level allowed : ℕ) → List (Frame N) → List (Item N V) → Option (State N V)
shift operator at level allowed (frame.Operator waiting place outer ∷ frames) out =
    taken operator at level allowed (frame.Operator waiting place outer ∷ frames) out (shift operator at (level_of waiting) outer frames (out ++ item.Operator waiting place ∷ []))
shift operator at level allowed frames out = taken operator at level allowed frames out None

-- the frames and the output once no operator waits for its last operand
abbrev pub inner_frames : {N : Type 0} → List (Frame N) → List (Frame N)
inner_frames (frame.Operator operator at allowed ∷ frames) = inner_frames frames
inner_frames frames = frames

abbrev pub inner_out : {N V : Type 0} → List (Frame N) → List (Item N V) → List (Item N V)
inner_out (frame.Operator operator at allowed ∷ frames) out = inner_out frames (out ++ item.Operator operator at ∷ [])
inner_out frames out = out

abbrev pub after_frame : {N V : Type 0} → Frame N → Terminal N V → List (Frame N) → List (Item N V) → Option (State N V)
after_frame (frame.Parenthesis allowed) terminal.Close frames out = Some (state (focus.Have 12 allowed) frames out)
after_frame (frame.Test at allowed) terminal.Then frames out = Some (state (focus.Await 0) (frame.Yes at allowed ∷ frames) out)
after_frame (frame.Yes at allowed) terminal.Else frames out = Some (state (focus.Await 0) (frame.No at allowed ∷ frames) out)
after_frame (frame.No at allowed) terminal.Fi frames out = Some (state (focus.Have 12 allowed) frames (out ++ item.Operator (Stream forms.If) at ∷ []))
after_frame (frame.Arguments at name allowed) terminal.Comma frames out = Some (state (focus.Await 0) (frame.Arguments at name allowed ∷ frames) (out ++ item.More ∷ []))
after_frame (frame.Arguments at name allowed) terminal.Close frames out = Some (state (focus.Have 12 allowed) frames ((out ++ item.More ∷ []) ++ item.Call at name ∷ []))
after_frame (frame.Operands called more) terminal.Comma frames out = cond (nat_eq more 0) None (Some (state (focus.Await 0) (frame.Operands called (more - 1) ∷ frames) out))
after_frame (frame.Operands called more) terminal.Close frames out = cond (nat_eq more 0) (Some (state (focus.Have 12 called.allowed) frames (out ++ item.Operator called.op called.at ∷ []))) None
after_frame (frame.RightSide defines this) terminal.Semicolon frames out = Some (state (focus.Heads this.block) frames (out ++ item.Def defines this.at this.name ∷ []))
after_frame _ _ _ _ = None

abbrev pub close_top : {N V : Type 0} → Terminal N V → List (Frame N) → List (Item N V) → Option (State N V)
close_top terminal [] out = None
close_top terminal (innermost ∷ frames) out = after_frame innermost terminal frames out

-- a terminal that is no operator, after an operand
abbrev pub close : {N V : Type 0} → Terminal N V → (at : ℕ) → List (Frame N) → List (Item N V) → Option (State N V)
close terminal.Where at frames out = Some (state (focus.Heads at) frames (out ++ item.NoDefs ∷ []))
close terminal at frames out = close_top terminal frames out

abbrev pub settle_at : {N V : Type 0} → Option Operator → Terminal N V → (at level allowed : ℕ) → List (Frame N) → List (Item N V) → Option (State N V)
settle_at (Some operator) terminal at level allowed frames out = shift operator at level allowed frames out
settle_at None terminal at level allowed frames out = close terminal at (inner_frames frames) (inner_out frames out)

-- a terminal after an operand of this level in a place that allows a level
abbrev pub settle : {N V : Type 0} → Terminal N V → (at level allowed : ℕ) → List (Frame N) → List (Item N V) → Option (State N V)
settle terminal at level allowed frames out = settle_at (operator_in Between terminal) terminal at level allowed frames out

abbrev pub prefixed : {N V : Type 0} → Option Operator → (at allowed : ℕ) → List (Frame N) → List (Item N V) → Option (State N V)
prefixed None at allowed frames out = None
prefixed (Some operator) at allowed frames out = cond (nat_le allowed (level_of operator)) (Some (state (focus.Await (level_of operator)) (frame.Operator operator at allowed ∷ frames) out)) None

-- an operator that begins an operand: one that is called, or one before its operand
abbrev pub begun : {N V : Type 0} → Option Operator → Option Operator → (at allowed : ℕ) → List (Frame N) → List (Item N V) → Option (State N V)
begun (Some called) before at allowed frames out = Some (state (focus.Opens (called_at called at allowed)) frames out)
begun None before at allowed frames out = prefixed before at allowed frames out

-- a terminal that begins an operand
abbrev pub begin : {N V : Type 0} → Terminal N V → (at allowed : ℕ) → List (Frame N) → List (Item N V) → Option (State N V)
begin (terminal.Name name) at allowed frames out = Some (state (focus.Named at name allowed) frames out)
begin (terminal.Const value) at allowed frames out = Some (state (focus.Have 12 allowed) frames (out ++ item.Const at value ∷ []))
begin terminal.If at allowed frames out = Some (state (focus.Await 0) (frame.Test at allowed ∷ frames) out)
begin terminal.Open at allowed frames out = Some (state (focus.Await 0) (frame.Parenthesis allowed ∷ frames) out)
begin terminal at allowed frames out = begun (operator_in Called terminal) (operator_in Before terminal) at allowed frames out

abbrev pub step_named : {N V : Type 0} → Terminal N V → (next at : ℕ) → N → (allowed : ℕ) → List (Frame N) → List (Item N V) → Option (State N V)
step_named terminal.Open next at name allowed frames out = Some (state (focus.Await 0) (frame.Arguments at name allowed ∷ frames) (out ++ item.NoTrees ∷ []))
step_named terminal next at name allowed frames out = settle terminal next 12 allowed frames (out ++ item.Name at name ∷ [])

abbrev pub step_heads : {N V : Type 0} → Terminal N V → (next block : ℕ) → List (Frame N) → List (Item N V) → Option (State N V)
step_heads (terminal.Name name) next block frames out = Some (state (focus.Headed (definition_in block next name)) frames out)
step_heads terminal.End next block frames out = Some (state (focus.Have 0 0) frames (out ++ item.Block block ∷ []))
step_heads _ _ _ _ _ = None

abbrev pub step_headed : {N V : Type 0} → Terminal N V → Definition N → List (Frame N) → List (Item N V) → Option (State N V)
step_headed terminal.Equals this frames out = Some (state (focus.Await 0) (frame.RightSide kind.Plain this ∷ frames) out)
step_headed terminal.Is this frames out = Some (state (focus.Frozen this) frames out)
step_headed terminal.Open this frames out = Some (state (focus.Names this) frames (out ++ item.NoNames ∷ []))
step_headed _ _ _ _ = None

abbrev pub step_frozen : {N V : Type 0} → Terminal N V → Definition N → List (Frame N) → List (Item N V) → Option (State N V)
step_frozen terminal.Current this frames out = Some (state (focus.Await 0) (frame.RightSide kind.Current this ∷ frames) out)
step_frozen _ _ _ _ = None

abbrev pub step_names : {N V : Type 0} → Terminal N V → (next : ℕ) → Definition N → List (Frame N) → List (Item N V) → Option (State N V)
step_names (terminal.Name parameter) next this frames out = Some (state (focus.Listed this) frames (out ++ item.Param next parameter ∷ []))
step_names _ _ _ _ _ = None

abbrev pub step_listed : {N V : Type 0} → Terminal N V → Definition N → List (Frame N) → List (Item N V) → Option (State N V)
step_listed terminal.Comma this frames out = Some (state (focus.Names this) frames out)
step_listed terminal.Close this frames out = Some (state (focus.Ready this) frames out)
step_listed _ _ _ _ = None

abbrev pub step_ready : {N V : Type 0} → Terminal N V → Definition N → List (Frame N) → List (Item N V) → Option (State N V)
step_ready terminal.Equals this frames out = Some (state (focus.Await 0) (frame.RightSide kind.Function this ∷ frames) out)
step_ready _ _ _ _ = None

abbrev pub step_opens : {N V : Type 0} → Terminal N V → CalledOperator → List (Frame N) → List (Item N V) → Option (State N V)
step_opens terminal.Open called frames out = Some (state (focus.Await 0) (frame.Operands called (arity_of called.op - 1) ∷ frames) out)
step_opens _ _ _ _ = None

abbrev pub step_at : {N V : Type 0} → Focus N → Terminal N V → (next : ℕ) → List (Frame N) → List (Item N V) → Option (State N V)
step_at (focus.Await allowed) terminal next frames out = begin terminal next allowed frames out
step_at (focus.Named at name allowed) terminal next frames out = step_named terminal next at name allowed frames out
step_at (focus.Have level allowed) terminal next frames out = settle terminal next level allowed frames out
step_at (focus.Heads block) terminal next frames out = step_heads terminal next block frames out
step_at (focus.Headed this) terminal next frames out = step_headed terminal this frames out
step_at (focus.Frozen this) terminal next frames out = step_frozen terminal this frames out
step_at (focus.Names this) terminal next frames out = step_names terminal next this frames out
step_at (focus.Listed this) terminal next frames out = step_listed terminal this frames out
step_at (focus.Ready this) terminal next frames out = step_ready terminal this frames out
step_at (focus.Opens called) terminal next frames out = step_opens terminal called frames out

abbrev pub step : {N V : Type 0} → State N V → Terminal N V → (next : ℕ) → Option (State N V)
step machine terminal next = step_at machine.focus terminal next machine.frames machine.out

-- the state through the terminals
abbrev pub feeds : PlainState → List PlacedTerminal → Option PlainState
feeds machine [] = Some machine
feeds machine (first ∷ rest) = option_and_then (λ moved. feeds moved rest) (step machine first.terminal first.at)

abbrev pub if_empty : {N V : Type 0} → List (Frame N) → List (Item N V) → Option (List (Item N V))
if_empty [] out = Some out
if_empty (innermost ∷ frames) out = None

-- what is written of a whole program
abbrev pub finished : {N V : Type 0} → List (Frame N) → List (Item N V) → Option (List (Item N V))
finished frames out = if_empty (inner_frames frames) (inner_out frames out)

abbrev pub finish_at : {N V : Type 0} → Focus N → List (Frame N) → List (Item N V) → Option (List (Item N V))
finish_at (focus.Named at name allowed) frames out = finished frames (out ++ item.Name at name ∷ [])
finish_at (focus.Have level allowed) frames out = finished frames out
finish_at _ _ _ = None

abbrev pub finish : {N V : Type 0} → State N V → Option (List (Item N V))
finish machine = finish_at machine.focus machine.frames machine.out

abbrev pub start : {N V : Type 0} → State N V
start = state (focus.Await 0) [] []

-- the nodes of the program that the terminals are
abbrev pub nodes : List PlacedTerminal → Option (List PlainItem)
nodes terminals = option_and_then finish (feeds start terminals)

-- The focus and what a step leaves behind it are those of the state, and none where there is none.
abbrev pub Reaches : {N V : Type 0} → Option (Focus N) → List (Frame N) → List (Item N V) → Option (State N V) → Type 0
Reaches (Some focus) frames out target = target ≡ Some (state focus frames out)
Reaches None frames out target = target ≡ None

-- the same of a call that may lack memory
abbrev pub Steps : {N V E : Type 0} → Result (Option (Focus N)) E → List (Frame N) → List (Item N V) → Option (State N V) → Type 0
Steps (Ok reached) frames out target = Reaches reached frames out target
Steps (Err error) frames out target = Unit {0}

-- a definition's head, or the end of the block
abbrev pub IsAtHead : {N : Type 0} → Focus N → Type 0
IsAtHead (focus.Heads block) = Unit {0}
IsAtHead (focus.Headed this) = Unit {0}
IsAtHead (focus.Frozen this) = Unit {0}
IsAtHead _ = ⊥

-- a definition's parameters, or what follows them
abbrev pub IsAtParameters : {N : Type 0} → Focus N → Type 0
IsAtParameters (focus.Names this) = Unit {0}
IsAtParameters (focus.Listed this) = Unit {0}
IsAtParameters (focus.Ready this) = Unit {0}
IsAtParameters _ = ⊥
