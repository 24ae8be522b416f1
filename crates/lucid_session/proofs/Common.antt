-- What the proofs of this crate take of std, and what two of them or more cite of other modules, passed on from one place. Declares nothing.
pub use Rattle.lucid_demand.specs.Demanded.{Demanded, most_known}
pub use Rattle.lucid_demand_steps.specs.declared.fault.DemandFault.{DemandFault}
pub use Rattle.lucid_equations.proofs.NodeGrowth.{node-meant_once}
pub use Rattle.lucid_equations.proofs.NodeWalks.{needed-visited}
pub use Rattle.lucid_equations.proofs.Reached.{reached}
pub use Rattle.lucid_equations.specs.Counts.{HasDistinct, Points, valued_datons}
pub use Rattle.lucid_equations.specs.Datons.{Daton}
pub use Rattle.lucid_equations.specs.Programs.{table_of}
pub use Rattle.lucid_equations.specs.Rows.{equations_of}
pub use Rattle.lucid_equations.specs.Values.{eqval, node_val}
pub use Rattle.lucid_equations.specs.Visits.{consults_on_nodes, visited_datons, visited_values, visits}
pub use Rattle.lucid_equations.specs.declared.table.Table.{Table}
pub use Rattle.lucid_demand_steps.proofs.History.{reads_only_itself}
pub use Rattle.lucid_demand_steps.specs.Elements.{elements_told}
pub use Rattle.lucid_demand_steps.specs.Engine.{AreAskable, EngineView, HoldsNeeded, IsSoundEngine, MayHave, ReadsOnly, holding, places_of}
pub use Rattle.lucid_demand_steps.specs.Held.{HoldsRight}
pub use Rattle.lucid_inputs.specs.Streams.{Stream, all_bytes}
pub use Rattle.lucid_ports.proofs.WritingLemmas.{with_nothing}
pub use Rattle.lucid_ports.specs.Faults.{Rises}
pub use Rattle.lucid_ports.specs.World.{Contents, World}
pub use Rattle.lucid_ports.specs.Writing.{with_all}
pub use Rattle.lucid_ports.specs.declared.run.RunFault.{RunFault}
pub use Rattle.lucid_ports.specs.declared.run.Summary.{Summary}
pub use Rattle.lucid_session.specs.Cells.{AreMarked, Asked, Found, GivesCell, HasCells, IsMarked, StopsAt}
pub use Rattle.lucid_session.specs.Faults.{of_demand}
pub use Rattle.lucid_session.specs.Figures.{ArePointsBefore, ArePointsBelow, Counted, Demands, Figures, HasMoreThan, IsDefinedAt, IsUndefinedHeld, OnClearings, OnDepth, columns_counted, root_counted, table_counted, times_of}
pub use Rattle.lucid_session.specs.Lines.{WritesLine}
pub use Rattle.lucid_session.specs.Moments.{Added, Draws, Has, Holds, IsConsultedSoFar, IsEntered, IsNeededSoFar, MuchEntered, SoFar, Standing, Start, Visited, before, layout, of_run, seen, start_of, subject, with_point}
pub use Rattle.lucid_session.specs.Runs.{Causes, ConsumesWithin, EndsAt, ForSomeAdded, IsShown, IsTooDeep, OnTooDeep, OnTooLarge, Ran, ReadsWithin, RunView, Written}
pub use Rattle.lucid_ports.specs.Told.{Told}
pub use Rattle.lucid_session.specs.Sessions.{PromisesColumns}
pub use Rattle.lucid_session.specs.Subject.{AreCells, HasEnded, IsCell, IsOpen, OfSome, OneStream, Output, StreamMeans, Subject, columns_subject, no_lines, one_line_more, parted, stream_subject, table_columns, table_stream_at}
pub use Rattle.lucid_store.specs.Entries.{IsOneForEach, count_of, empty_warehouse}
pub use Rattle.lucid_tags.specs.Contexts.{Context, root}
pub use Rattle.lucid_tags.specs.Known.{IsOneForOne}
pub use Rattle.lucid_tree.proofs.Members.{in_either, in_left, in_map, in_right}
pub use Rattle.lucid_tree.specs.Levels.{Elements, HoldsExactly, referred, valued_of}
pub use Rattle.lucid_tree.specs.Members.{AllDiffer, In}
pub use Rattle.lucid_value.specs.Lines.{end_of_line}
pub use Rattle.lucid_value.specs.Plain.{PlainValue, eod}
pub use Rattle.lucid_value.specs.ValueText.{value_text}
pub use Rattle.lucid_value.specs.View.{plain}
pub use Rattle.lucid_value.specs.declared.Value.{Value}
pub use Rattle.std.proofs.Common.{Bool, List, None, Option, add-one, ap, append-nil, append_assoc, arith, cond, false, inl, inr, length, map, refl, replicate, subst, suc, sym, take, true, true≢false, zero, ℕ, ◌&&◌, ◌*◌, ◌++◌, ◌+◌, ◌-◌, ◌<◌, ◌==◌, ◌^◌, ◌||◌, ◌∙◌, ◌≡◌, ◌≢◌, ◌≤◌, ◌⊎◌}
pub use Rattle.std.proofs.Math.Seq.{take-length}
pub use Rattle.std.proofs.lemmas.Bool.{cases_lt}
pub use Rattle.std.proofs.lemmas.Bool.Decides.{Decides-and, Decides-eqb, not_from_Decides}
pub use Rattle.std.proofs.lemmas.Grind.{flat_map-append}
pub use Rattle.std.proofs.lemmas.List.{length-map, length-replicate, length-take-le}
pub use Rattle.std.proofs.lemmas.List.FromFn.{length-range_with_len}
pub use Rattle.std.proofs.lemmas.Map.Keys.{IsDistinct-head, IsDistinct-tail}
pub use Rattle.std.proofs.lemmas.Option.{none-some, same_Some, slice_get-map, slice_get_within}
pub use Rattle.std.proofs.lemmas.Result.{err_from_is_err_and}
pub use Rattle.std.specs.Bool.{Decides, MatchBool}
pub use Rattle.std.specs.List.{AllByRecursion, IsDistinct, cons_option, filter_map, flat_map, range_with_len}
pub use Rattle.std.specs.Map.{keys_of, lookup}
pub use Rattle.std.specs.Prelude.{Err, IfErr, IfOk, IfSome, IsErrOf, IsSome, IsTrue, Ok, Result, if◌then◌else◌, is_some, nat_lt, option_map, slice_get, slice_index_or, slice_set, ◌↔◌}
