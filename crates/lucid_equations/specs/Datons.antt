-- Datons, and what references on nodes go on with. The source is Wadge and Ashcroft's eduction, which demands the value of a
-- variable in a context at a time; callers and frozen times in contexts are this language's own.
use Rattle.std.specs.Prelude.{ℕ, Option, Some, None, Bool, ◌==◌, ◌&&◌}
use Rattle.lucid_tree.specs.Levels.{Target, element_of, goes_to, nowhere}
use Rattle.lucid_tags.specs.Contexts.{Context, call_frame, frozen_frame, cut, same_context}
use Rattle.lucid_equations.specs.Nodes.{PlainNode, row, freeze, reference, invoke, PlainEntry, plain_entry, called_entry, current_entry, parameter_entry, Reference, input, refer, Equations}

-- What a reference refers to, apart from its space: the number of a name, a context, and a time, 0 for a current name.
pub record Daton : Type 0 where
  pub name : ℕ
  pub context : Context
  pub time : ℕ

-- two datons are the same: the same name, context and time
abbrev pub same_daton : Daton → Daton → Bool
same_daton d k = (d.name == k.name) && (same_context d.context k.context && (d.time == k.time))

-- where a node is evaluated: in a context
pub record NodePosition : Type 0 where
  pub node : PlainNode
  pub context : Context

-- what a reference goes on with
abbrev pub NodeAim : Type 0
NodeAim = Target Daton NodePosition

-- from a daton to a node in a context at a time
abbrev pub to_node : (name : ℕ) → (of : Context) → (time : ℕ) → PlainNode → (at : Context) → ℕ → NodeAim
to_node n c t e f u = goes_to (record { name = n; context = c; time = t }) (record { node = e; context = f }) u

-- a parameter's actual, in the caller's context
abbrev pub to_actual : Option PlainNode → (name : ℕ) → (of caller : Context) → ℕ → NodeAim
to_actual None n c f t = nowhere
to_actual (Some e) n c f t = to_node n c t e f t

-- What a name goes on with in a context at a time, by its row. A plain name and a call go on with their bodies in that context; a
-- parameter, where the innermost frame is a call's, with that place's actual in the caller's context; a current name, where the
-- innermost frame is a frozen time, with its body in the context without that frame, at that time.
abbrev pub by_entry : Equations → Option PlainEntry → (name : ℕ) → Context → ℕ → NodeAim
by_entry p (Some (plain_entry e)) n c t = to_node n c t e c t
by_entry p (Some (called_entry e)) n c t = to_node n c t e c t
by_entry p (Some (parameter_entry i)) n (call_frame at f c) t = to_actual (p.actual at i) n (call_frame at f c) f t
by_entry p (Some (current_entry e)) n (frozen_frame u c) t = to_node n (frozen_frame u c) 0 e c u
by_entry _ _ _ _ _ = nowhere

-- what a name goes on with, where its context is there
abbrev pub name_aim : Equations → (name : ℕ) → Option Context → ℕ → NodeAim
name_aim p n None t = nowhere
name_aim p n (Some c) t = by_entry p (p.entry n) n c t

-- What a reference goes on with from a context: the outermost frames, as many as its level says.
abbrev pub reference_aim : Equations → Reference → Context → ℕ → NodeAim
reference_aim p (input n) c t = element_of n t
reference_aim p (refer n l) c t = name_aim p n (cut l c) t

-- the context with a call added, whose caller is the context that calls
abbrev pub called_from : (place : ℕ) → (caller : Context) → Option Context → Option Context
called_from at c None = None
called_from at c (Some base) = Some (call_frame at c base)

-- What a call goes on with from a context: the outermost frames, as many as its level says, with the call added.
abbrev pub call_aim : Equations → (name place level : ℕ) → Context → ℕ → NodeAim
call_aim p n at l c t = name_aim p n (called_from at c (cut l c)) t

-- what a daton goes on with
abbrev pub daton_aim : Equations → Daton → NodeAim
daton_aim p d = by_entry p (p.entry d.name) d.name d.context d.time

-- what a node goes on with at a time, where it is a reference or a call
abbrev pub node_aim : Equations → PlainNode → Context → (time : ℕ) → NodeAim
node_aim p (row f es) c t = nowhere
node_aim p (freeze e) c t = nowhere
node_aim p (reference r) c t = reference_aim p r c t
node_aim p (invoke n at l) c t = call_aim p n at l c t
