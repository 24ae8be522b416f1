-- What the proofs of this crate take of std, and what two of them or more cite of other modules, passed on from one place. Declares nothing.
pub use Rattle.lucid_demand_steps.specs.Aims.{IsAim, plain_aim}
pub use Rattle.lucid_demand_steps.specs.Justified.{Justified, argument_at, argument_by}
pub use Rattle.lucid_demand_steps.specs.declared.aim.Aim.{Aim}
pub use Rattle.lucid_demand.specs.Acting.{Applies, DemandIn, IsReadyTask, IsTaken, MayAct, MayGive, MaySettle, Settling, at_rows, value_of}
pub use Rattle.lucid_demand.specs.Asking.{AsksIn, CanAsk, CanAskAll, Enters, FindsAim, HoldsNothing, IsFor, MayAskFor, MayAskNow, MayRefer, SetsPart}
pub use Rattle.lucid_demand.specs.Demanded.{Demanded}
pub use Rattle.lucid_demand_steps.specs.Faults.{CountsReadFaults, OnTooLarge, fault_of}
pub use Rattle.lucid_demand.specs.Evaluating.{Evaluating, MayStep, Stepped, cost, gave}
pub use Rattle.lucid_demand.specs.LoopEnds.{LoopEnds}
pub use Rattle.lucid_demand.specs.Reading.{ReadsElement}
pub use Rattle.lucid_demand.specs.Turning.{Begins, IsTurned, MayTurn}
pub use Rattle.lucid_demand_steps.specs.declared.fault.DemandFault.{DemandFault}
pub use Rattle.lucid_demand_steps.specs.declared.fault.DemandFault.TheVariants.{NoMemory, ReadFault, TooDeep}
pub use Rattle.lucid_equations.specs.Nodes.{row}
pub use Rattle.lucid_equations.specs.Rows.{constant_at, equations_of}
pub use Rattle.lucid_equations.specs.declared.rows.Node.{Node}
pub use Rattle.lucid_equations.specs.declared.table.Table.{Table}
pub use Rattle.lucid_demand_steps.proofs.Acting.{GoesDown, cost_of}
pub use Rattle.lucid_demand_steps.proofs.Answering.{too_deep-is_right}
pub use Rattle.lucid_demand_steps.proofs.Ends.{engine_begins}
pub use Rattle.lucid_demand_steps.proofs.HeldByKey.{held_stays}
pub use Rattle.lucid_demand_steps.proofs.Knowing.{all_rows_as_tags_grow}
pub use Rattle.lucid_demand_steps.proofs.Listing.{changed_there, plain_of_row, ready_after_take}
pub use Rattle.lucid_demand_steps.proofs.NewRows.{row-is_wanted}
pub use Rattle.lucid_demand_steps.proofs.Owning.{owns_drops, owns_enters}
pub use Rattle.lucid_demand_steps.proofs.Passing.{passed-stands}
pub use Rattle.lucid_demand_steps.proofs.Reading.{StreamsRead}
pub use Rattle.lucid_demand_steps.proofs.Seeing.{plain_got, plain_ready, task_as_tags_grow}
pub use Rattle.lucid_demand_steps.proofs.Slots.{at_another, at_it}
pub use Rattle.lucid_demand_steps.proofs.Standing.{stands-itself}
pub use Rattle.lucid_demand_steps.proofs.Working.{answers_over, work_over}
pub use Rattle.lucid_demand_steps.specs.Demands.{Demand, IsEntered, demand_of, stays}
pub use Rattle.lucid_demand_steps.specs.Engine.{AreAskable, EngineView, IsSoundEngine, MayHave, ReadsWithin, holding, known_elements}
pub use Rattle.lucid_demand_steps.specs.Going.{IsDemand, Owns, Waits}
pub use Rattle.lucid_demand_steps.specs.Held.{HoldsRight, held_in}
pub use Rattle.lucid_demand_steps.specs.Parts.{IsPart, IsReference, RefersTo, aim_of_task, moved, node_of, passed, passed_contexts, rank}
pub use Rattle.lucid_demand_steps.specs.Rows.{IsWanted, Remembers, RowFacts}
pub use Rattle.lucid_demand_steps.specs.Stands.{StandsFor, task_visits}
pub use Rattle.lucid_demand_steps.specs.Tasks.{DatonAt, PlainRow, PlainTask, idle, plain_key, plain_row, plain_rows, plain_task, state_at, value_of_part, waits_for_none}
pub use Rattle.lucid_inputs.specs.Reading.{GivesElement}
pub use Rattle.lucid_inputs.specs.Streams.{Stream, all_bytes}
pub use Rattle.lucid_ops.specs.Arity.{arity}
pub use Rattle.lucid_ops.specs.declared.op.Op.{Op}
pub use Rattle.lucid_ports.specs.Faults.{Rises}
pub use Rattle.lucid_ports.specs.World.{World}
pub use Rattle.lucid_search.specs.Noted.{Noted}
pub use Rattle.lucid_store.specs.Entries.{IsTouched, value_at}
pub use Rattle.lucid_store.specs.Stored.{Stored}
pub use Rattle.lucid_tags.specs.Contexts.{Context, root}
pub use Rattle.lucid_tags.specs.Known.{IsKnown, IsOneForOne, KeepsKnown, context_of, space_of}
pub use Rattle.lucid_tags.specs.declared.Key.{Key}
pub use Rattle.lucid_tasks.specs.Rows.{Got, Idle, TaskRow, got_of, is_ready, returned}
pub use Rattle.lucid_tasks.specs.declared.Cursor.{Cursor}
pub use Rattle.lucid_tasks.specs.declared.Task.{Task}
pub use Rattle.lucid_tree.proofs.Members.{inside-read}
pub use Rattle.lucid_tree.specs.Levels.{Elements, entered_of}
pub use Rattle.lucid_tree.specs.Members.{In}
pub use Rattle.lucid_value.specs.Lines.{IsOverlong}
pub use Rattle.lucid_value.specs.Plain.{PlainValue}
pub use Rattle.lucid_value.specs.View.{plain}
pub use Rattle.lucid_value.specs.declared.Value.{Value}
pub use Rattle.std.proofs.Common.{List, None, OnErr, Option, [], ap, arith, inl, inr, le_refl, refl, rules, subst, suc, sym, zero, ℕ, ◌+◌, ◌-◌, ◌^◌, ◌∙◌, ◌∷◌}
pub use Rattle.std.proofs.lemmas.Bool.{cases_eq, cases_lt}
pub use Rattle.std.proofs.lemmas.List.{length-map}
pub use Rattle.std.proofs.lemmas.Option.{none-some, same_Some, slice_get-get_or, slice_get_within}
pub use Rattle.std.specs.Borrow.{Bor}
pub use Rattle.std.specs.Int.{from_bool}
pub use Rattle.std.specs.List.{filter_map, list_all}
pub use Rattle.std.specs.Map.{lookup}
pub use Rattle.std.specs.Prelude.{IfErr, IsErrOf, IsSome, IsTrue, OnOk, if◌then◌else◌, is_some, option_and_then, option_copied, slice_get, slice_index_or, slice_set, unwrap_or, ⊤, ◌==◌}
pub use Rattle.std.specs.Result.{IsErrAnd}
