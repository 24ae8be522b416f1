-- What the proofs of this crate take of std, and what two of them or more cite of other modules, passed on from one place. Declares nothing.
pub use Rattle.lucid_equations.proofs.ByStep.{parts-keep}
pub use Rattle.lucid_equations.proofs.NodeAims.{node-by_daton}
pub use Rattle.lucid_equations.proofs.NodeGrowth.{node-meant_once}
pub use Rattle.lucid_equations.proofs.PartsRead.{part-lower, part-node, row-node}
pub use Rattle.lucid_equations.proofs.SameDatons.{same-daton}
pub use Rattle.lucid_equations.specs.Datons.{Daton, NodeAim, NodePosition, daton_aim, node_aim, same_daton}
pub use Rattle.lucid_equations.specs.MoreElements.{Extends}
pub use Rattle.lucid_equations.specs.Moving.{onward}
pub use Rattle.lucid_equations.specs.Nodes.{Equations, PlainNode, PlainNodes, freeze, invoke, no_nodes, part_of, reference, row}
pub use Rattle.lucid_equations.specs.Parts.{reads_parts, visits_parts}
pub use Rattle.lucid_equations.specs.Ranges.{IsInRange}
pub use Rattle.lucid_equations.specs.RowParts.{HasPart}
pub use Rattle.lucid_equations.specs.Rows.{equations_of, node_at, node_by, part_number, parts}
pub use Rattle.lucid_equations.specs.Values.{NodeMeans, node_hval, node_val}
pub use Rattle.lucid_equations.specs.Visits.{IsNeeded, node_visits}
pub use Rattle.lucid_equations.specs.declared.rows.Node.{Node}
pub use Rattle.lucid_equations.specs.declared.rows.Node.TheVariants.{Freeze}
pub use Rattle.lucid_equations.specs.declared.table.Table.{Table}
pub use Rattle.lucid_demand_steps.specs.Changes.{AsksRow, ChangesRow, PutsDaton, SetsRow, SettlesRow, at_cursor, given_to, is_daton, with_part}
pub use Rattle.lucid_demand_steps.specs.Decisions.{AsksFor, ComesTo, MayAsk, MayMove, MayRead, looked_on}
pub use Rattle.lucid_demand_steps.specs.Demands.{Answers, Demand, IsEntered, IsSeen, IsVisited, LookAnswers, demand_of, held_if, stays, table_of}
pub use Rattle.lucid_demand_steps.specs.Elements.{elements_read}
pub use Rattle.lucid_demand_steps.specs.Engine.{AreAskable, DrawsWithin, EngineView, ForSomeAdded, GoesOn, HoldsFew, IsSoundEngine, MayHave, ReadsOnly, holding, known_elements, places_of}
pub use Rattle.lucid_demand_steps.specs.Going.{IsDemand, Owns, WithinRoom}
pub use Rattle.lucid_demand_steps.specs.Held.{AllNotedClosed, AllNotedRight, AreKeysKnown, Counted, DatonMeans, HoldsRight, IsClosed, NeedsHeld, NotedRight, cursor_noted, held_in, is_key_of, is_search, key_noted}
pub use Rattle.lucid_demand_steps.specs.Measure.{total, weight}
pub use Rattle.lucid_demand_steps.specs.Parts.{GoesTo, IsPart, IsReference, IsTask, RefersTo, look_of_row, look_task, moved, moved_by, node_of, part_by_look, part_by_reference, passed, rank}
pub use Rattle.lucid_demand_steps.specs.Rows.{IsWanted, Links, MayPut, PartAnswers, Remembers, RowFacts, SearchFacts, Serves, Work}
pub use Rattle.lucid_demand_steps.specs.Stands.{Holding, IsDefined, Lacks, StandsFor, TaskMeans, TaskNeeds, given, higher, hval_of, task_visits, val_of, visits_of}
pub use Rattle.lucid_demand_steps.specs.Stock.{StockFacts}
pub use Rattle.lucid_demand_steps.specs.Tasks.{AreRowsKnown, AreTagsKnown, DatonAt, PartState, PlainRow, PlainRows, PlainTask, all_idle, asked, got, idle, is_free, key_list, new_row, plain_key, plain_row, plain_rows, plain_state, plain_task, state_at, value_in, value_of_part, waits_for_none}
pub use Rattle.lucid_inputs.specs.Reading.{ReadsOn}
pub use Rattle.lucid_inputs.specs.Streams.{Stream, all_bytes}
pub use Rattle.lucid_lists.proofs.Options.{value_there}
pub use Rattle.lucid_ports.specs.World.{Contents, World}
pub use Rattle.lucid_search.specs.Noted.{Noted, NotesOrMisses, number_at}
pub use Rattle.lucid_store.specs.Entries.{SetsOnly, count_of, entry_at, fresh, held}
pub use Rattle.lucid_store.specs.Stored.{Stored}
pub use Rattle.lucid_tags.specs.Contexts.{Context, frozen_frame}
pub use Rattle.lucid_tags.specs.Keys.{same_key}
pub use Rattle.lucid_tags.specs.Known.{IsKnown, IsOneForOne, KeepsKnown, space_of}
pub use Rattle.lucid_tags.specs.declared.Key.{Key}
pub use Rattle.lucid_tags.specs.declared.Tag.{Tag}
pub use Rattle.lucid_tasks.specs.Rows.{Asked, Got, Idle, TaskRow}
pub use Rattle.lucid_tasks.specs.declared.Cursor.{Cursor}
pub use Rattle.lucid_tasks.specs.declared.Part.{Part}
pub use Rattle.lucid_tasks.specs.declared.Task.{Task}
pub use Rattle.lucid_tree.proofs.Members.{inside-read}
pub use Rattle.lucid_tree.proofs.RunsMeant.{reader-up}
pub use Rattle.lucid_tree.proofs.SearchesLead.{count-keeps, counted_truth}
pub use Rattle.lucid_tree.proofs.Ways.{leads-maps, leads-runs}
pub use Rattle.lucid_tree.specs.Levels.{Elements, Given, entered_of, goes_to, nothing_held, reference_of, referred}
pub use Rattle.lucid_tree.specs.Members.{AllDiffer, In, Inside}
pub use Rattle.lucid_tree.specs.Rests.{CanStandAt, LeadsTo, Reads, ReadsAtSome, at_start, rest_at}
pub use Rattle.lucid_tree.specs.Rows.{Look, Plan, gives, nothing, plan}
pub use Rattle.lucid_tree.specs.Tree.{Head, asa, const, upon, whenever}
pub use Rattle.lucid_value.specs.Plain.{PlainValue, truth}
pub use Rattle.lucid_value.specs.View.{plain}
pub use Rattle.lucid_value.specs.declared.Value.{Value}
pub use Rattle.std.proofs.Common.{List, None, Option, Some, [], add-zero, ap, arith, cond, inl, inr, le_refl, max, refl, subst, suc, sym, true≢false, zero, ℕ, ◌*◌, ◌++◌, ◌+◌, ◌-◌, ◌<◌, ◌^◌, ◌∙◌, ◌∷◌, ◌≡◌, ◌≤◌, ◌⊎◌}
pub use Rattle.std.proofs.Math.Nat.{min-eq_left, min-eq_right, mul-le-mul_right}
pub use Rattle.std.proofs.lemmas.Bool.{and_parts, cases_eq, cases_lt}
pub use Rattle.std.proofs.lemmas.Bool.Decides.{Decides-and, Decides-eqb, Decides-like, nat_tests, same_from_decides}
pub use Rattle.std.proofs.lemmas.List.{length-map, length-set, map-set}
pub use Rattle.std.proofs.lemmas.List.Sums.{sum_by-cons}
pub use Rattle.std.proofs.lemmas.Option.{none-some, same_Some, slice_get-get_or, slice_get_past, slice_get_within, unwrap_or-slice_get}
pub use Rattle.std.proofs.lemmas.Slice.Eq.{slice_eq-Decides}
pub use Rattle.std.specs.List.{filter_map, list_all}
pub use Rattle.std.specs.Map.{lookup}
pub use Rattle.std.specs.Prelude.{Decides, IfSome, IsSome, IsTrue, MatchOption, is_some, map, min, nat_le, pos, slice_index_or, slice_set, sum_by, unwrap_or}
