-- What the proofs of this crate take of std, and what two of them or more cite of other modules, passed on from one place. Declares nothing.
pub use Rattle.lucid_tree.specs.DefsView.{defs_of}
pub use Rattle.lucid_tree.specs.Demand.{Events, entry_of, frozen_entry, seen, walk, walk_at, walk_part}
pub use Rattle.lucid_tree.specs.Env.{Aim, Env, Position, Referent, args, call_target, current_def, definition, empty, frozen_at, function_def, name_target, param, plain_def, same_name, scope, tree_at}
pub use Rattle.lucid_tree.specs.Levels.{Below, Elements, Given, Target, approximation, below, element_of, goes_to, nothing_held, nowhere, or_else}
pub use Rattle.lucid_tree.specs.Lists.{listed, trees_of}
pub use Rattle.lucid_tree.specs.Meaning.{Means, hval, part_at, val, value, value_at}
pub use Rattle.lucid_tree.specs.Members.{AllDiffer, In, Inside}
pub use Rattle.lucid_tree.specs.Rests.{AllHave, LeadsTo, Reads, ReadsAtSome, and_then, at_start}
pub use Rattle.lucid_tree.specs.Rights.{rights}
pub use Rattle.lucid_tree.specs.Rows.{Look, Plan, Reader, add_value, all_values, arguments, at_zero, by_place, by_test, count_true, find_true, gather, gives, gives_part, last, look, looks, nothing, plan, run, single, trace, with_values}
pub use Rattle.lucid_tree.specs.Size.{count, nodes, nodes_in, nodes_in_defs}
pub use Rattle.lucid_tree.specs.Tree.{Head, PlainDefs, PlainTree, PlainTrees, apply, asa, block, both, call, choose, const, defines, defines_current, defines_function, either, fby, fby_of, first, first_of, form, name, next, next_of, no_defs, no_trees, tree, upon, whenever, whenever_of}
pub use Rattle.lucid_tree.specs.WellMade.{depths, depths_in_defs}
pub use Rattle.lucid_tree.specs.declared.tree.Def.{Def}
pub use Rattle.lucid_tree.specs.declared.tree.DefKind.TheVariants.{Current, Function, Plain}
pub use Rattle.lucid_value.specs.Plain.{PlainValue, fault, int, truth}
pub use Rattle.std.proofs.Common.{Contains, List, None, Option, Some, [], add-one, add-zero, ap, arith, cond, count_by, get_or, if◌then◌else◌, inl, inr, length, length-append, map, max, nat_eq, nat_le, nat_lt, refl, subst, suc, sym, take, zero, ℕ, ◌*◌, ◌++◌, ◌+◌, ◌-◌, ◌<◌, ◌∙◌, ◌∷◌, ◌≡◌, ◌≤◌, ◌⊎◌}
pub use Rattle.std.proofs.lemmas.Bool.{cases_lt, eq-eqb, eqb-true}
pub use Rattle.std.proofs.lemmas.Bool.Decides.{nat_tests}
pub use Rattle.std.proofs.lemmas.List.Sums.{sum_by-cons}
pub use Rattle.std.specs.List.{cons_option, filter_map}
pub use Rattle.std.specs.Prelude.{pos}
pub use Rattle.std.specs.Vec.Iter.{into_iter_items}
