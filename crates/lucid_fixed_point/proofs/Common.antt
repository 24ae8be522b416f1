-- What the proofs of this crate take of std, and what two of them or more cite of other modules, passed on from one place. Declares nothing.
pub use Rattle.lucid_fixed_point.specs.Contexts.{Context, Contexts, DefContexts, block_of, call_of, context, fill, fill_all, fill_definitions, form_of, is_current, is_function, is_plain, name_of, no_contexts, no_definitions, place}
pub use Rattle.lucid_fixed_point.specs.Denotation.{denotation, denotations, equations, meanings}
pub use Rattle.lucid_fixed_point.specs.Equations.{AimHas, IsClosed, PartHas, Relation}
pub use Rattle.lucid_fixed_point.specs.Families.{Solves, all_by_family, by_family}
pub use Rattle.lucid_fixed_point.specs.Order.{EachWithin, IsChain, IsChainOfMeanings, IsContinuous, MapWithin, MeaningsApproached, MeaningsWithin, PointsWithin, Within}
pub use Rattle.lucid_fixed_point.specs.Rules.{Derives}
pub use Rattle.lucid_fixed_point.specs.Search.{Advance, Search, found, past_false, past_true}
pub use Rattle.lucid_fixed_point.specs.Streams.{Map, Meanings, Stream, Streams, chosen, frozen, iterate, least, no_map, no_stream, numbered_or, operator, union, union_of, with_arguments, with_map, with_stream}
pub use Rattle.lucid_fixed_point.specs.Tests.{AsTruth, HaveValues, IsNoTruth, Placed, Tested, Values, ends, fails, on_false, on_true}
pub use Rattle.lucid_fixed_point.specs.Unfolding.{AllAvoid, Avoids, Clear, InsideClear, Names, bound, parameters}
pub use Rattle.lucid_ops.specs.Algebra.{algebra}
pub use Rattle.lucid_tree.proofs.Plans.{Keeps, run-keeps, within_itself}
pub use Rattle.lucid_tree.proofs.Settled.{added, defined}
pub use Rattle.lucid_tree.specs.Env.{Aim, Env, Found, args, call_target, called, current_def, definition, empty, frozen_at, frozen_target, function_def, in_args, in_scope, name_target, param, plain_def, same_name, scope, to_actual, tree_at, unless_param}
pub use Rattle.lucid_tree.specs.Levels.{Elements}
pub use Rattle.lucid_tree.specs.Rows.{Plan, Reader, add_value, all_values, by_place, by_test, gives, gives_part, last, look, nothing, only_truth, plan, run, with_values}
pub use Rattle.lucid_tree.specs.Tree.{Head, PlainDefs, PlainTree, PlainTrees, apply, block, call, choose, const, defines, defines_current, defines_function, fby, fby_of, first, form, name, no_defs, no_trees, sby, tree, upon, whenever}
pub use Rattle.lucid_value.specs.Plain.{PlainValue, eod, fault, truth}
pub use Rattle.std.proofs.Common.{Bool, List, Option, [], ap, arith, false, get_or, if◌then◌else◌, inl, inr, max, nat_eq, nat_le, nat_lt, refl, subst, suc, sym, true, zero, ℕ, ◌&&◌, ◌<◌, ◌↔◌, ◌∙◌, ◌∷◌, ◌≡◌, ◌≤◌}
pub use Rattle.std.proofs.lemmas.Bool.Decides.{nat_tests}
pub use Rattle.std.specs.List.{position_or_len}
pub use Rattle.std.specs.Option.{is_some}
pub use Rattle.std.specs.Prelude.{None, Some, codes, cond, length, not, pos, ◌+◌}
