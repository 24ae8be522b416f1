-- Aims by numbers: what a reference or a call of a table goes on with, as the number of the node that it leads to. Equal expressions are
-- equal plain nodes, so a plain aim doesn't tell to which row it leads; a number does.
use Rattle.std.specs.Prelude.{◌≡◌, ℕ, ◌<◌, length, [], Option, Some, None, get_or}
use Rattle.lucid_tree.specs.Levels.{Target, element_of, goes_to, nowhere}
use Rattle.lucid_tags.specs.Contexts.{Context, call_frame, frozen_frame, cut}
use Rattle.lucid_equations.specs.Datons.{Daton, NodePosition, NodeAim, called_from, daton_aim, node_aim}
use Rattle.lucid_equations.specs.Rows.{node_at, row_at, name_at, actual_at, equations_of}
use Rattle.lucid_equations.specs.Ranges.{IsInRange}
use Rattle.lucid_equations.specs.declared.rows.Node.{Node}
use Rattle.lucid_equations.specs.declared.rows.Node.TheVariants.{Input, Refer, Call}
use Rattle.lucid_equations.specs.declared.rows.Entry.{Entry}
use Rattle.lucid_equations.specs.declared.rows.Entry.TheVariants.{Plain, Parameter, Current, Called}
use Rattle.lucid_equations.specs.declared.table.Table.{Table}

-- where the node of a number is evaluated: in a context
pub record NumberPosition : Type 0 where
  pub number : ℕ
  pub context : Context

-- what a reference goes on with, by the node's number
abbrev pub NumberAim : Type 0
NumberAim = Target Daton NumberPosition

-- from a daton to the node of a number in a context at a time
abbrev pub to_number : (name : ℕ) → (of : Context) → (time : ℕ) → (number : ℕ) → (at : Context) → ℕ → NumberAim
to_number n c t id f u = goes_to (record { name = n; context = c; time = t }) (record { number = id; context = f }) u

-- a parameter's actual, in the caller's context
abbrev pub to_actual_number : Option ℕ → (name : ℕ) → (of caller : Context) → ℕ → NumberAim
to_actual_number None n c f t = nowhere
to_actual_number (Some id) n c f t = to_number n c t id f t

-- What a name goes on with in a context at a time, by its row in a table: a plain name, a call, a parameter and a current name each with the
-- number of what `by_entry` says.
abbrev pub by_name_row : Table → Option Entry → (name : ℕ) → Context → ℕ → NumberAim
by_name_row T (Some (Plain id)) n c t = to_number n c t id c t
by_name_row T (Some (Called id)) n c t = to_number n c t id c t
by_name_row T (Some (Parameter i)) n (call_frame at f c) t = to_actual_number (actual_at T at i) n (call_frame at f c) f t
by_name_row T (Some (Current id)) n (frozen_frame u c) t = to_number n (frozen_frame u c) 0 id c u
by_name_row _ _ _ _ _ = nowhere

-- what a name goes on with, where its context is there
abbrev pub name_number_aim : Table → (name : ℕ) → Option Context → ℕ → NumberAim
name_number_aim T n None t = nowhere
name_number_aim T n (Some c) t = by_name_row T (name_at T n) n c t

-- what a daton goes on with
abbrev pub daton_number_aim : Table → Daton → NumberAim
daton_number_aim T d = by_name_row T (name_at T d.name) d.name d.context d.time

-- what a node's row goes on with from a context at a time, where it is an input, a reference or a call
abbrev pub row_aim : Table → Option Node → Context → (time : ℕ) → NumberAim
row_aim T (Some (Input k)) c t = element_of (get_or T.inputs k []) t
row_aim T (Some (Refer n l)) c t = name_number_aim T n (cut l c) t
row_aim T (Some (Call n q l)) c t = name_number_aim T n (called_from q c (cut l c)) t
row_aim _ _ _ _ = nowhere

-- What the node of a number goes on with.
abbrev pub number_aim : Table → (number : ℕ) → Context → (time : ℕ) → NumberAim
number_aim T id c t = row_aim T (row_at T id) c t

-- the plain position of a number, and the plain aim of an aim by numbers
abbrev pub plain_position : Table → NumberPosition → NodePosition
plain_position T x = record { node = node_at T x.number; context = x.context }

abbrev pub plain_aim : Table → NumberAim → NodeAim
plain_aim T (element_of n j) = element_of n j
plain_aim T (goes_to k x u) = goes_to k (plain_position T x) u
plain_aim T nowhere = nowhere

-- In a table in range, what a node goes on with is the plain aim of what its number goes on with,
abbrev pub NodesGoByNumbers : Type 0
NodesGoByNumbers =
    (T : Table) → IsInRange T → (id : ℕ) (c : Context) (t : ℕ) → node_aim (equations_of T) (node_at T id) c t ≡ plain_aim T (number_aim T id c t)

-- what a daton goes on with is that of its aim by numbers,
abbrev pub DatonsGoByNumbers : Type 0
DatonsGoByNumbers = (T : Table) (d : Daton) → daton_aim (equations_of T) d ≡ plain_aim T (daton_number_aim T d)

-- and each such number is a node's.
abbrev pub AimsLeadToNodes : Type 0
AimsLeadToNodes =
    (T : Table) → IsInRange T → (id : ℕ) (c : Context) (t : ℕ) (d : Daton) (x : NumberPosition) (u : ℕ) → number_aim T id c t ≡ goes_to d x u
    → x.number < length T.nodes
