-- What the proofs of this crate take of std, and what two of them or more cite of other modules, passed on from one place. Declares nothing.
pub use Rattle.lucid_cycles.specs.Closes.{Closed}
pub use Rattle.lucid_cycles.specs.Cycles.{edge, first_or, total}
pub use Rattle.lucid_cycles.specs.Found.{text_at}
pub use Rattle.lucid_cycles.specs.Graph.{Bindings, edge_to, edges, edges_in, edges_in_defs, factor_of, first_delay, graph, later_delay, number}
pub use Rattle.lucid_cycles.specs.Judged.{IsFirstOutside, is_judged, outside, outside_in, outside_in_defs, plain_names, plain_names_in, plain_names_in_defs}
pub use Rattle.lucid_cycles.specs.JudgmentLine.{definition_text, definitions, name_text}
pub use Rattle.lucid_cycles.specs.Judgments.{IsLeastEnough}
pub use Rattle.lucid_cycles.specs.Laws.{DefsHaveParts, EnoughIsEnough, HasParts, HaveParts}
pub use Rattle.lucid_cycles.specs.Potentials.{Adds, ArePotentials, Falls, potential}
pub use Rattle.lucid_cycles.specs.Readers.{HasNames}
pub use Rattle.lucid_cycles.specs.Rounds.{AreLeastAdded, AreLevels, Fits, IsDue, IsRound, IsSmall, Makes, Raises, RaisesFrom, Rounding, levels_of}
pub use Rattle.lucid_cycles.specs.Walks.{HasAsked, listed_names, marked, marks, marks_in, marks_in_defs, own_marks, with_name}
pub use Rattle.lucid_cycles.specs.declared.edge.Edge.{Edge}
pub use Rattle.lucid_cycles.specs.declared.line.Definition.{Definition}
pub use Rattle.lucid_cycles.specs.declared.names.Names.{Names}
pub use Rattle.lucid_cycles.specs.declared.names.Survey.{Survey}
pub use Rattle.lucid_lists.proofs.Lists.{some_left}
pub use Rattle.lucid_scope.specs.Scoped.{scoped_binding, scoped_inputs, scoped_tree}
pub use Rattle.lucid_scope.specs.declared.scoped.Binding.{Binding}
pub use Rattle.lucid_scope.specs.declared.scoped.Binding.TheVariants.{Plain}
pub use Rattle.lucid_tree.proofs.Members.{in_left, in_right}
pub use Rattle.lucid_tree.specs.Members.{AllDiffer, In}
pub use Rattle.lucid_tree.specs.Rights.{right_of}
pub use Rattle.lucid_tree.specs.Rows.{Reader, by_test, gives, look, run}
pub use Rattle.lucid_tree.specs.Size.{nodes, nodes_in}
pub use Rattle.lucid_tree.specs.Tree.{Head, PlainDefs, PlainTree, PlainTrees, block, call, defines, defines_current, defines_function, fby, first, form, name, next, no_defs, no_trees, tree}
pub use Rattle.lucid_tree.specs.WellMade.{places, places_in, places_in_defs}
pub use Rattle.lucid_value.specs.Plain.{PlainValue, fault, truth}
pub use Rattle.std.proofs.Common.{Bool, List, Option, Some, Vec, [], add-one, ap, append_assoc, arith, codes, cond, drop, eqb, false, fold, get_or, inl, inr, length, length-append, map, refl, replicate, rules, set, subst, suc, sym, take, true, vec_len, zero, ℕ, ◌*◌, ◌++◌, ◌+◌, ◌-◌, ◌<◌, ◌||◌, ◌∙◌, ◌∷◌, ◌≡◌, ◌≢◌, ◌≤◌, ◌⊎◌}
pub use Rattle.std.proofs.Math.ListN.{length-set}
pub use Rattle.std.proofs.Math.Logic.{∥∥₁_elim}
pub use Rattle.std.proofs.Math.Nat.{mul-le-mul_left}
pub use Rattle.std.proofs.Props.{props}
pub use Rattle.std.proofs.lemmas.Bool.{cases_lt, eq-eqb, eqb-true, le-ltb, lt-ltb}
pub use Rattle.std.proofs.lemmas.Bool.Decides.{nat_tests}
pub use Rattle.std.proofs.lemmas.Int.{ints, to_z-of_z}
pub use Rattle.std.proofs.lemmas.List.{append-nil, get_or-map, get_or_default, get_or_past, length-map, length-replicate, length-take-le, map-append, take-append-drop, take_all, take_more, take_more_set}
pub use Rattle.std.proofs.lemmas.List.Elements.{All-append, All-cons, All-drop, All-from_get_or, All-head, All-map, All-more, All-nil, All-push, All-tail, All-take, All-weaker}
pub use Rattle.std.proofs.lemmas.List.Sorted.{All-permutation, IsNonDecreasingBy-from_sort_by_key, IsPermutation-sym, sum_by-IsPermutation}
pub use Rattle.std.proofs.lemmas.List.Sums.{count_by-le-length, sum_by-cons}
pub use Rattle.std.proofs.lemmas.Map.Keys.{IsDistinct-from_apart}
pub use Rattle.std.proofs.lemmas.Map.Steps.{length-le_from_distinct_below}
pub use Rattle.std.specs.Bool.{then_some}
pub use Rattle.std.specs.Fmt.{signed_decimal}
pub use Rattle.std.specs.Global.{Global}
pub use Rattle.std.specs.List.{All, count_by, filter, flat_map, join_by, list_any}
pub use Rattle.std.specs.List.Sorted.{IsNonDecreasingBy, IsPermutation}
pub use Rattle.std.specs.Prelude.{IsOk, IsSome, IsTrue, MatchOption, OnOk, Result, is_ok, is_some, nat_eq, negsuc, option_map, pos, ℤ, ◌*ℤ◌, ◌+ℤ◌, ◌-ℤ◌, ◌<ℤ◌, ◌↔◌, ◌≤ℤ◌}
pub use Rattle.std.specs.declared.convert.Infallible.{Infallible}
