-- What the proofs of what follows take of std, and what two of them or more cite of other modules, passed on from one place. Declares nothing.
pub use Rattle.lucid_equations.specs.Nodes.{PlainNode, PlainNodes, freeze, invoke, reference, row}
pub use Rattle.lucid_equations.specs.NumberAims.{number_aim}
pub use Rattle.lucid_equations.specs.Programs.{table_of}
pub use Rattle.lucid_equations.specs.Rows.{node_at, node_by, part_number, parts, row_at}
pub use Rattle.lucid_equations.specs.declared.rows.Node.{Node}
pub use Rattle.lucid_equations.specs.declared.table.Table.{Table}
pub use Rattle.lucid_cert_rules.specs.Checking.{AreOfContexts, contexts_of}
pub use Rattle.lucid_cert_rules.specs.Fed.{Uses, fed, take_values}
unfoldable pub use Rattle.lucid_cert_rules.specs.Follows.{given, used}
pub use Rattle.lucid_cert_rules.specs.Follows.{FollowsIn, by_node, by_onward, context_in, contexts_behind, of_part, only, onward}
pub use Rattle.lucid_cert_rules.specs.RestPlans.{AreFedAlike, HasHead, look_plan}
pub use Rattle.lucid_cert_rules.specs.declared.rest.Then.{Then}
pub use Rattle.lucid_ops.specs.Arity.{arity}
pub use Rattle.lucid_ops.specs.declared.op.Op.{Op}
pub use Rattle.lucid_tags.specs.Contexts.{Context, call_frame, frozen_frame, root}
pub use Rattle.lucid_tags.specs.Known.{context_of}
pub use Rattle.lucid_tree.specs.Levels.{Elements, element_of, goes_to, nowhere}
pub use Rattle.lucid_tree.specs.Rows.{Look, Plan, find_true, gives, last, looks, plan}
pub use Rattle.lucid_tree.specs.Tree.{Head, apply}
pub use Rattle.lucid_value.specs.Plain.{PlainValue}
pub use Rattle.lucid_cert_rules.specs.Certificates.{PlainJudgment}
pub use Rattle.std.proofs.Common.{Bool, List, None, Option, Some, [], add-one, ap, append_assoc, arith, cond, drop, false, get_or, inl, inr, length, refl, subst, suc, sym, true, zero, ℕ, ◌++◌, ◌+◌, ◌-◌, ◌<◌, ◌↔◌, ◌∙◌, ◌∷◌, ◌≡◌, ◌≤◌, ◌⊎◌}
pub use Rattle.std.proofs.Math.Seq.{drop-cons}
pub use Rattle.std.proofs.lemmas.Bool.{and_parts, cases_order, eqb-true, le-leb, ltb-true}
pub use Rattle.std.proofs.lemmas.List.{append-nil, map-append}
pub use Rattle.std.proofs.lemmas.Option.{cond_some, option_and_then_some, same_Some}
pub use Rattle.std.specs.Option.{option_and_then}
pub use Rattle.std.specs.Prelude.{IfSome, nat_le, nat_lt, option_map, slice_get, ◌==◌}
