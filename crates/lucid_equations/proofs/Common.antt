-- What the proofs of this crate take of std, and what two of them or more cite of other modules, passed on from one place. Declares nothing.
pub use Rattle.lucid_equations.specs.Datons.{Daton, NodeAim, NodePosition, by_entry, call_aim, called_from, daton_aim, name_aim, node_aim, reference_aim, to_actual}
pub use Rattle.lucid_equations.specs.Laws.{GoesByItsDaton, HeldIsMeant}
pub use Rattle.lucid_equations.specs.Nodes.{Equations, PlainNode, PlainNodes, Reference, freeze, invoke, no_nodes, node, part_of, reference, row}
pub use Rattle.lucid_equations.specs.Parts.{reads_parts, visits_parts}
pub use Rattle.lucid_equations.specs.Programs.{table_of}
pub use Rattle.lucid_equations.specs.Ranges.{EachBelow, EntryIsInRange, IsInRange, NamesAreInRange, NodeIsInRange, NodesAreInRange, PlacesAreInRange, sizes}
pub use Rattle.lucid_equations.specs.Rows.{actuals_of, all_at, as_node, at, constants_of, equations_of, grow, no_node, node_at, node_by, parts, row_at}
pub use Rattle.lucid_equations.specs.Values.{NodeMeans, node_hval, node_val, node_value, part_at, value_at}
pub use Rattle.lucid_equations.specs.Visits.{IsNeeded, NodeEvents, context_of, node_visits, node_walk, walk_at, walk_part}
pub use Rattle.lucid_equations.specs.declared.rows.NameRow.{NameRow}
pub use Rattle.lucid_equations.specs.declared.rows.Node.{Node}
pub use Rattle.lucid_equations.specs.declared.rows.Node.TheVariants.{Const}
pub use Rattle.lucid_equations.specs.declared.rows.NodeRow.{NodeRow}
pub use Rattle.lucid_equations.specs.declared.rows.PlaceRow.{PlaceRow}
pub use Rattle.lucid_equations.specs.declared.table.Table.{Table}
pub use Rattle.lucid_tags.specs.Contexts.{Context, call_frame, cut, frozen_frame}
pub use Rattle.lucid_tree.proofs.LevelGrowth.{below-grows, last_or_less}
pub use Rattle.lucid_tree.proofs.Members.{in_either, in_left, in_read, in_right, inside-after, inside-cons, inside-read, inside_itself}
pub use Rattle.lucid_tree.proofs.Plans.{Keeps, plan-grows, run-keeps, within_itself}
pub use Rattle.lucid_tree.proofs.Settled.{takes_plan, trace-same}
pub use Rattle.lucid_tree.proofs.Traces.{TakesMore, trace-inside}
pub use Rattle.lucid_tree.specs.Levels.{Below, Elements, Given, below, deeper, element_of, entered, goes_to, looked_up, nothing_held, nowhere, or_else, reference_of, referred}
pub use Rattle.lucid_tree.specs.Members.{AllDiffer, In, Inside}
pub use Rattle.lucid_tree.specs.Rows.{Look, Plan, Reader, gives, looks, plan, run, trace, with_values}
pub use Rattle.lucid_tree.specs.Tree.{Head}
pub use Rattle.lucid_value.specs.Plain.{PlainValue}
pub use Rattle.std.proofs.Common.{Bool, Bor, List, None, Option, Ordering, Some, [], add-one, add-zero, ap, append_assoc, arith, cond, drop, false, get_or, if◌then◌else◌, inl, inr, length, length-append, max, nat_le, nat_lt, not, refl, slice_get, subst, suc, sym, take, true, zero, ℕ, ◌&&◌, ◌++◌, ◌+◌, ◌<◌, ◌==◌, ◌↔◌, ◌∙◌, ◌∷◌, ◌≡◌, ◌≤◌, ◌⊎◌}
pub use Rattle.std.proofs.Math.Seq.{get_or-append_seam}
pub use Rattle.std.proofs.lemmas.Bool.{not-false}
pub use Rattle.std.proofs.lemmas.Bool.Decides.{Decides-and, Decides-eqb, Decides-like, nat_tests}
pub use Rattle.std.proofs.lemmas.List.{append-nil, get_or_append_left, get_or_past, take_more}
pub use Rattle.std.proofs.lemmas.Map.Text.{is_eq-slice_cmp}
pub use Rattle.std.proofs.lemmas.Option.{none-some, same_Some, slice_get_cases}
pub use Rattle.std.specs.BTreeSet.{contains}
pub use Rattle.std.specs.Bool.{Decides}
pub use Rattle.std.specs.Cmp.Lexicographic.{bytes_decides, slice_cmp}
pub use Rattle.std.specs.List.{filter_map}
pub use Rattle.std.specs.Option.{option_map}
pub use Rattle.std.specs.Ordering.{is_eq, nat_cmp}
