-- What the proofs of this crate take of std and of other crates, and what two of them or more cite of its own, passed on from one place. Declares nothing.
pub use Rattle.lucid_compile.specs.Bound.{FunctionStand, Log, Numbered, Target, added, added_all, added_defs, block_scopes, bound_entry, bound_node, bound_nodes, callee_place, constant_notes, name_node, no_log, no_target, node_by, numbers_in, of_call, of_name, opened_block, opened_function, reference_by, piece_target, with_call, with_constants, with_function, with_nodes, with_parameters, with_scopes, with_stand}
pub use Rattle.lucid_compile.specs.Building.{Lists, OneConstant, OneNode, OneScope, lists, with_body, with_name, with_place}
pub use Rattle.lucid_compile.specs.Compiles.{Actuals, AllKept, Callable, Compiles, DefsKept, Good, HasRow, Kept, Parameters, Shape}
pub use Rattle.lucid_compile.specs.Counts.{valued_entries}
pub use Rattle.lucid_compile.specs.Forms.{HasFirst, IsForm, node_of}
pub use Rattle.lucid_compile.specs.Holds.{AddsDefs, AddsTree, AddsTrees, AreKnown, Begins, BodyFits, EachRow, FunctionsHold, Grown, GrownTo, HasTarget, Holds, IsBody, IsEntry, IsNameRow, IsNodeRow, IsOpen, IsPlaceRow, IsScopeRow, NameFits, NamesHold, NodeFits, NodesHold, PlaceFits, PlacesHold, ScopesHold, StandsAt}
pub use Rattle.lucid_compile.specs.Keys.{IsNumberingOf, KeyLists, call_key, key_of_function, keys_of, place_key, plain_key, stand_key, with_call_key, with_function_key, with_name_key}
pub use Rattle.lucid_compile.specs.Known.{IsKnown, NamesNothing}
pub use Rattle.lucid_compile.specs.Linked.{link, linked, linked_node, linked_place, linked_row}
pub use Rattle.lucid_compile.specs.Noted.{AreNumbers, HasBody, HasNumbers, HasParts, IsNotedAt, IsNumber, OneForOne}
pub use Rattle.lucid_compile.specs.Notes.{Kind, Note, block_piece, called_right, current_right, node_place, note, noted_actuals, noted_name, noted_tree, noted_value, opening, parameter_notes, parameter_number, piece, plain_right}
pub use Rattle.lucid_compile.specs.Numbered.{AreMarked, call_number, function_mark, key_at, mark_by, name_mark, or_no_mark}
pub use Rattle.lucid_compile.specs.Places.{first_place, place_of}
pub use Rattle.lucid_compile.specs.Promise.{KeepsTree}
pub use Rattle.lucid_compile.specs.Static.{Numbers, Origin, Source, call_level, context_for, daton_of, event_of, frame, freezes, in_body, level, node_for, nodes_for, position_for, static_of}
pub use Rattle.lucid_compile.specs.Steps.{AddsNode, AddsParameters, call_row, callee_number, numbered, row_by, row_of_call, rows_of_calls, with_calls, with_names}
pub use Rattle.lucid_compile.specs.declared.building.Body.{Body}
pub use Rattle.lucid_compile.specs.declared.building.Here.{Here}
pub use Rattle.lucid_compile.specs.declared.numbering.Key.{Key}
pub use Rattle.lucid_compile.specs.declared.numbering.Mark.{Mark}
pub use Rattle.lucid_compile.specs.declared.numbering.Numbering.{Numbering}
pub use Rattle.lucid_equations.proofs.Rising.{all_at-kept, at-kept}
pub use Rattle.lucid_equations.specs.Counts.{HasDistinct, Points, contexts, datons, valued_datons}
pub use Rattle.lucid_equations.specs.Datons.{Daton, NodeAim, NodePosition, by_entry, call_aim, called_from, name_aim, reference_aim, to_node}
pub use Rattle.lucid_equations.specs.Nodes.{Equations, PlainEntry, PlainNode, PlainNodes, called_entry, current_entry, freeze, input, invoke, no_nodes, node, parameter_entry, plain_entry, refer, reference, row}
pub use Rattle.lucid_equations.specs.Programs.{table_of}
pub use Rattle.lucid_equations.specs.Ranges.{EachBelow, EntryIsInRange, IsInRange, NamesAreInRange, NodeNames, NodesAreInRange, PlacesAreInRange, Sizes, sizes}
pub use Rattle.lucid_equations.specs.Rows.{actuals_of, all_at, as_node, at, entry_by, equations_of, grow, no_node, nodes_of, parts}
pub use Rattle.lucid_equations.specs.Sound.{AreZero, BodiesStand, CallLeads, CallsLead, EachStandsIn, EntryStands, HasDepth, IsFilled, IsReferable, IsRound, IsSound, NameIs, NodesNest, PartsStand, PlacesPass, ReferenceLeads, ReferencesLead, RowsHaveScopes, ScopeIs, ScopesNest, StandsIn, further, itself}
pub use Rattle.lucid_equations.specs.Values.{eqhval, eqval, node_hval, node_val, node_value, value_at}
pub use Rattle.lucid_equations.specs.Visits.{consults_on_nodes, context_of, node_visits, node_walk, visited_contexts, visited_datons, visited_values, visits}
pub use Rattle.lucid_equations.specs.declared.program.Program.{Program}
pub use Rattle.lucid_equations.specs.declared.rows.Entry.{Entry}
pub use Rattle.lucid_equations.specs.declared.rows.Entry.TheVariants.{Called, Current, Parameter, Plain}
pub use Rattle.lucid_equations.specs.declared.rows.NameRow.{NameRow}
pub use Rattle.lucid_equations.specs.declared.rows.Node.{Node}
pub use Rattle.lucid_equations.specs.declared.rows.Node.TheVariants.{Call, Const, Freeze, Input, Refer}
pub use Rattle.lucid_equations.specs.declared.rows.NodeRow.{NodeRow}
pub use Rattle.lucid_equations.specs.declared.rows.PlaceRow.{PlaceRow}
pub use Rattle.lucid_equations.specs.declared.rows.ScopeKind.{ScopeKind}
pub use Rattle.lucid_equations.specs.declared.rows.ScopeKind.TheVariants.{Frozen, Root}
pub use Rattle.lucid_equations.specs.declared.rows.ScopeRow.{ScopeRow}
pub use Rattle.lucid_equations.specs.declared.table.Table.{Table}
pub use Rattle.lucid_lists.proofs.Truths.{both_true, first_true, second_true}
pub use Rattle.lucid_ops.specs.Arity.{arity}
pub use Rattle.lucid_scope.specs.Bindings.{IsResolved, binding_for, binding_of, call_fault, fault_of, name_fault}
pub use Rattle.lucid_scope.specs.Laws.{FreeNamesAreInputs}
pub use Rattle.lucid_scope.specs.Scope.{Meaning, current_name, defined_in, free, function, meaning, parameter, parameter_in, plain_name}
pub use Rattle.lucid_scope.specs.Scoped.{scoped_binding, scoped_inputs, scoped_tree}
pub use Rattle.lucid_scope.specs.Sites.{Earlier, again, again_if, also, inside_sites, named, no_names, outside_sites, repeats, site_at, sites, sites_in}
pub use Rattle.lucid_scope.specs.declared.refusal.ScopeRefusal.TheVariants.{Arity}
pub use Rattle.lucid_scope.specs.declared.scoped.Binding.{Binding}
pub use Rattle.lucid_tags.proofs.ContextLemmas.{cut-above, cut-call_frame, cut-frames, cut-frozen_frame}
pub use Rattle.lucid_tags.specs.Contexts.{Context, call_frame, cut, frames, frozen_frame, root}
pub use Rattle.lucid_tree.proofs.Members.{fewer, in_either, in_left, in_map, in_right}
pub use Rattle.lucid_tree.proofs.Times.{differ-once, once-differ, times, times-append}
pub use Rattle.lucid_tree.specs.DefsView.{def_of, defs_of, one_def}
pub use Rattle.lucid_tree.specs.Demand.{Events, consults, enters, entry_of, refers, refers_with_values, seen, walk}
pub use Rattle.lucid_tree.specs.Env.{Aim, Env, Found, Position, Referent, absent, args, call_target, current_def, definition, empty, frozen_at, function_def, in_args, in_scope, name_target, param, plain_def, same_name, scope, to_actual, tree_at, unless_param}
pub use Rattle.lucid_tree.specs.Levels.{Elements, Event, Given, HoldsExactly, element_of, entered, entered_of, goes_to, look_up_of, looked_up, nothing_held, nowhere, or_else, referred, valued_of}
pub use Rattle.lucid_tree.specs.Meaning.{val, value}
pub use Rattle.lucid_tree.specs.Members.{AllDiffer, In, Inside}
pub use Rattle.lucid_tree.specs.Parts.{operands}
pub use Rattle.lucid_tree.specs.Rights.{right_of}
pub use Rattle.lucid_tree.specs.Rows.{Look, Plan, Reader, all_values, gather, gives, looks, nothing, plan, run, trace, with_values}
pub use Rattle.lucid_tree.specs.Shape.{FitsHead, head_of}
pub use Rattle.lucid_tree.specs.Size.{count, nodes, nodes_in_defs}
pub use Rattle.lucid_tree.specs.Tree.{Head, PlainDefs, PlainTree, PlainTrees, apply, block, call, const, defines, defines_current, defines_function, form, name, no_defs, no_trees, tree}
pub use Rattle.lucid_tree.specs.View.{tree_of}
pub use Rattle.lucid_tree.specs.WellMade.{IsWellMade, are_shaped, defs_are_shaped, fits_arity, is_shaped, places, places_in_defs}
pub use Rattle.lucid_tree.specs.declared.tree.Block.{Block}
pub use Rattle.lucid_tree.specs.declared.tree.Def.{Def}
pub use Rattle.lucid_tree.specs.declared.tree.DefKind.{DefKind}
pub use Rattle.lucid_value.specs.Plain.{PlainValue, fault}
pub use Rattle.std.proofs.Common.{All, Bool, Err, IfOk, IfSome, IsTrue, List, None, Ok, OnOk, Option, Result, Some, [], add-zero, ap, append_assoc, arith, cond, drop, false, get_or, if◌then◌else◌, inl, inr, is_some, length, length-append, length-take-le, map, nat_eq, nat_le, nat_lt, refl, rules, slice_get, slice_set, subst, suc, sym, take, take_all, true, zero, ℕ, ◌&&◌, ◌*◌, ◌++◌, ◌+◌, ◌-◌, ◌<◌, ◌↔◌, ◌∙◌, ◌∷◌, ◌≡◌, ◌≤◌, ◌⊎◌}
pub use Rattle.std.proofs.Math.Logic.{∥∥₁_elim}
pub use Rattle.std.proofs.Math.Seq.{drop-append_seam, get_or-append_seam, take-append_seam}
pub use Rattle.std.proofs.lemmas.Bool.Decides.{nat_tests}
pub use Rattle.std.proofs.lemmas.List.{drop-append-le, get_or_append_left, get_or_default, length-map, map-append, take-append-le, take_more}
pub use Rattle.std.proofs.lemmas.List.Quantifiers.{position-Some}
pub use Rattle.std.proofs.lemmas.Option.{none-some, slice_get-map, slice_get_within}
pub use Rattle.std.specs.Coded.{Coded-set, coded_list, coded_option}
pub use Rattle.std.specs.List.{cons_option, filter_map, flat_map, position_or_len}
pub use Rattle.std.specs.Map.{lookup}
pub use Rattle.std.specs.Option.{option_map}
