-- What the proofs of rules take of std, and what two of them or more cite of other modules, passed on from one place. Declares nothing.
pub use Rattle.lucid_fixed_point.specs.Equations.{AimHas, IsClosed, PartHas, Relation}
pub use Rattle.lucid_tree.specs.Env.{Aim, Env, Referent, call_target, definition, frozen_at, name_target, plain_def, scope, tree_at}
pub use Rattle.lucid_tree.specs.Levels.{Elements, below, element_of, goes_to, nothing_held, nowhere}
pub use Rattle.lucid_tree.specs.Meaning.{Means, part_at, value}
pub use Rattle.lucid_tree.specs.Tree.{PlainDefs, PlainTree, PlainTrees, block, call, form, name, no_trees, tree}
pub use Rattle.lucid_value.specs.Plain.{PlainValue}
pub use Rattle.std.proofs.Common.{List, None, Option, Some, arith, get_or, max, refl, subst, suc, sym, zero, ℕ, ◌∙◌, ◌≡◌}
