-- What the proofs of this crate take of std, and what two of them or more cite of other modules, passed on from one place. Declares nothing.
pub use Rattle.lucid_columns.specs.Columns.{AreColumnsBelow, defines_plain, is_plain, over_space, with_columns}
pub use Rattle.lucid_tree.specs.DefsView.{defs_of}
pub use Rattle.lucid_tree.specs.Env.{definition}
pub use Rattle.lucid_tree.specs.Tree.{PlainDefs, PlainTree, block}
pub use Rattle.lucid_tree.specs.View.{tree_of}
pub use Rattle.lucid_tree.specs.WellMade.{IsWellMade}
pub use Rattle.lucid_tree.specs.declared.tree.Block.{Block}
pub use Rattle.std.proofs.Common.{Bool, Box, Global, List, None, Option, Some, [], add-one, ap, append-nil, arith, drop, drop-cons, false, if◌then◌else◌, inl, inr, length, length-append, refl, slice_index_or, subst, suc, sym, true, true≢false, zero, ℕ, ◌*◌, ◌++◌, ◌+◌, ◌<◌, ◌∙◌, ◌∷◌, ◌≡◌, ◌≤◌, ◌⊎◌}
pub use Rattle.std.proofs.Math.ListN.{drop_of_length-le}
pub use Rattle.std.proofs.lemmas.Bool.{cases_lt}
pub use Rattle.std.proofs.lemmas.List.Elements.{All-append, All-cons, All-nil}
pub use Rattle.std.proofs.lemmas.Option.{slice_get-get_or}
pub use Rattle.std.proofs.lemmas.Result.{err_from_is_err_and}
pub use Rattle.std.specs.Cmp.Lexicographic.{nat_list_eq_equiv}
pub use Rattle.std.specs.List.{filter_map}
pub use Rattle.std.specs.Prelude.{All, IsTrue, nat_le, slice_get, ◌↔◌}
