-- What the proofs of decisions take of std, and what two of them or more cite of other modules, passed on from one place. Declares nothing.
pub use Rattle.lucid_demand_steps.specs.Aims.{plain_aim}
pub use Rattle.lucid_demand_steps.specs.Taken.{DecidesFor}
pub use Rattle.lucid_demand_steps.specs.Justified.{Justified}
pub use Rattle.lucid_demand_steps.specs.Ready.{IsReadyRow}
pub use Rattle.lucid_demand_steps.specs.declared.aim.Aim.{Aim}
pub use Rattle.lucid_demand_steps.specs.declared.decision.Decision.TheVariants.{Apply, AskAll, Constant, LookOn, Read, Refuse}
pub use Rattle.lucid_equations.specs.Datons.{NodeAim}
pub use Rattle.lucid_equations.specs.Nodes.{PlainNodes, row}
pub use Rattle.lucid_equations.specs.Programs.{program_equations}
pub use Rattle.lucid_equations.specs.Ranges.{IsInRange, NodeIsInRange, sizes}
pub use Rattle.lucid_equations.specs.Rows.{constant_at, node_at, node_by, part_number, parts}
pub use Rattle.lucid_equations.specs.declared.rows.Node.{Node}
pub use Rattle.lucid_equations.specs.declared.table.Table.{Table}
pub use Rattle.lucid_demand_steps.specs.Decisions.{LookHas}
pub use Rattle.lucid_demand_steps.specs.Held.{is_search}
pub use Rattle.lucid_demand_steps.specs.Parts.{aim_of_task, look_of_row, node_of, part_by_look, passed_contexts}
pub use Rattle.lucid_demand_steps.specs.Tasks.{PlainRow, PlainTask, plain_row, plain_task, value_of_part}
pub use Rattle.lucid_lists.proofs.Options.{on_err}
pub use Rattle.lucid_ops.specs.Arity.{arity}
pub use Rattle.lucid_ops.specs.declared.op.Op.{Op}
pub use Rattle.lucid_tags.specs.Contexts.{Context, call_frame, cut, frames, frozen_frame}
pub use Rattle.lucid_tags.specs.Known.{IsKnown, IsUnknown, context_of}
pub use Rattle.lucid_tags.specs.declared.Tag.{Tag}
pub use Rattle.lucid_tasks.specs.Rows.{TaskRow, got_of}
pub use Rattle.lucid_tasks.specs.declared.Cursor.{Cursor}
pub use Rattle.lucid_tasks.specs.declared.Task.{Task}
pub use Rattle.lucid_tree.specs.Levels.{nowhere}
pub use Rattle.lucid_tree.specs.Members.{In}
pub use Rattle.lucid_tree.specs.Rests.{CanStandAt, at_start}
pub use Rattle.lucid_tree.specs.Rows.{Plan, gives, last}
pub use Rattle.lucid_tree.specs.Tree.{Head, apply, asa, upon, whenever}
pub use Rattle.lucid_value.specs.Plain.{PlainValue, truth}
pub use Rattle.lucid_value.specs.View.{plain}
pub use Rattle.lucid_value.specs.declared.Value.{Value}
pub use Rattle.std.proofs.Common.{List, None, Option, [], ap, arith, inl, inr, refl, rules, subst, suc, sym, zero, ℕ, ◌+◌, ◌-◌, ◌∙◌, ◌∷◌, ◌≢◌}
pub use Rattle.std.proofs.lemmas.Bool.Decides.{nat_tests}
pub use Rattle.std.proofs.lemmas.Option.{none-some, same_Some, slice_get-get_or}
pub use Rattle.std.specs.List.{list_all}
pub use Rattle.std.specs.Prelude.{get_or, if◌then◌else◌, is_none, map, nat_le, nat_lt, option_and_then, slice_get, slice_index_or, take}
