-- What the proofs of this crate take of std, and what two of them or more cite of other modules, passed on from one place. Declares nothing.
pub use Rattle.lucid_ops.specs.Algebra.{algebra}
pub use Rattle.lucid_test_programs.specs.Runs.{Writes}
pub use Rattle.lucid_test_programs.specs.Small.{AllApply, Applies, DefsApply, IsUsable}
pub use Rattle.lucid_test_programs.specs.Streams.{elements_of}
pub use Rattle.lucid_test_programs.specs.Turns.{counted_by, each_value, found_by, turn_of}
pub use Rattle.lucid_test_programs.specs.View.{Going, at_none, at_tree, calls, env_of, found_in, going}
pub use Rattle.lucid_test_programs.specs.declared.streams.Stream.{Stream}
pub use Rattle.lucid_ports.specs.Writing.{with_all, with_front}
pub use Rattle.lucid_tree.specs.DefsView.{defs_of}
pub use Rattle.lucid_tree.specs.Env.{Aim, Env, Found, absent, args, call_target, current_def, definition, empty, frozen_at, function_def, name_target, param, plain_def, same_name, scope, tree_at}
pub use Rattle.lucid_tree.specs.Levels.{below, nothing_held}
pub use Rattle.lucid_tree.specs.Lists.{trees_of}
pub use Rattle.lucid_tree.specs.Meaning.{val, value}
pub use Rattle.lucid_tree.specs.Rows.{add_value}
pub use Rattle.lucid_tree.specs.Size.{count, nodes, nodes_in, nodes_in_defs}
pub use Rattle.lucid_tree.specs.Tree.{PlainDefs, PlainTree, PlainTrees, apply, defines, defines_current, defines_function, form, no_defs, no_trees, tree}
pub use Rattle.lucid_value.specs.Plain.{PlainValue, eod}
pub use Rattle.lucid_value.specs.View.{plain}
pub use Rattle.std.proofs.Common.{Bool, List, None, Option, Some, [], add-one, ap, append_assoc, arith, drop, drop-cons, false, get_or, if◌then◌else◌, length, map, nat_eq, nat_le, nat_lt, refl, slice_index_or, sub-one, subst, suc, sym, true, zero, ℕ, ◌&&◌, ◌*◌, ◌++◌, ◌+◌, ◌-◌, ◌<◌, ◌^◌, ◌∙◌, ◌∷◌, ◌≡◌, ◌≢◌, ◌≤◌}
pub use Rattle.std.proofs.Math.ListN.{drop_of_length-le}
pub use Rattle.std.proofs.Math.Seq.{take-length}
pub use Rattle.std.proofs.lemmas.Bool.{and_parts}
pub use Rattle.std.proofs.lemmas.Bool.Decides.{nat_tests}
pub use Rattle.std.proofs.lemmas.Grind.{common_steps}
pub use Rattle.std.proofs.lemmas.List.{append-nil, length-append, length-map, map-append}
pub use Rattle.std.specs.Global.{Global}
pub use Rattle.std.specs.Option.{option_map}
pub use Rattle.std.specs.Prelude.{Vec}
