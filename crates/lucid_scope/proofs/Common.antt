-- What the proofs of this crate take of std, and what two of them or more cite of other modules, passed on from one place. Declares nothing.
pub use Rattle.lucid_scope.specs.Bindings.{HasNoFault, IsLeastFault, IsResolved, all_sites, binding_for, fault_of, with_input, with_site}
pub use Rattle.lucid_scope.specs.Keys.{key_bytes}
pub use Rattle.lucid_scope.specs.Owners.{definition_owner, flattened, look, or_outer, owner_of, parameter_owner, put_back, with_owner}
pub use Rattle.lucid_scope.specs.Scope.{Meaning, Static, current_name, defined_in, free, function, in_block, in_function, meaning, outermost, parameter, parameter_in, plain_name}
pub use Rattle.lucid_scope.specs.Settled.{Fits, mark_binding, mark_fault, owner_binding, with_mark, with_owner_input}
pub use Rattle.lucid_scope.specs.Sites.{Earlier, Site, again, again_if, also, inside_sites, named, no_names, outside_sites, repeats, site_at, sites, sites_in}
pub use Rattle.lucid_scope.specs.Steps.{inner_work, outer_work, pending, told, work_in, work_inside, work_left, work_outside}
pub use Rattle.lucid_scope.specs.Walks.{Owned, in_block_owned, in_function_owned, inner_marks, inside_marks, is_seen, mark, marks, marks_in, outer_marks, outside_marks}
pub use Rattle.lucid_scope.specs.declared.marks.Mark.{Mark}
pub use Rattle.lucid_scope.specs.declared.marks.What.TheVariants.{Called}
pub use Rattle.lucid_scope.specs.declared.refusal.ScopeRefusal.{ScopeRefusal}
pub use Rattle.lucid_scope.specs.declared.scoped.Binding.{Binding}
pub use Rattle.lucid_scope.specs.declared.table.Owner.{Owner}
pub use Rattle.lucid_scope.specs.declared.table.Saved.{Saved}
pub use Rattle.lucid_scope.specs.declared.walk.Walk.{Walk}
pub use Rattle.lucid_tree.proofs.Members.{contained}
pub use Rattle.lucid_tree.specs.DefsView.{def_of, defs_of, one_def}
pub use Rattle.lucid_tree.specs.Env.{Found, current_def, definition, function_def, param, plain_def, same_name}
pub use Rattle.lucid_tree.specs.Size.{count}
pub use Rattle.lucid_tree.specs.Tree.{PlainDefs, PlainTree, PlainTrees, block, call, defines, defines_current, defines_function, form, name, no_defs, no_trees, tree}
pub use Rattle.lucid_tree.specs.WellMade.{IsWellMade, places, places_in, places_in_defs}
pub use Rattle.lucid_tree.specs.declared.tree.Def.{Def}
pub use Rattle.lucid_tree.specs.declared.tree.DefKind.{DefKind}
pub use Rattle.lucid_tree.specs.declared.tree.DefKind.TheVariants.{Function, Plain}
pub use Rattle.std.proofs.Common.{Bool, BuildHasherDefault, FoldHasher, Global, HashMap, IsSome, List, None, Vec, [], add-one, ap, append_assoc, arith, cond, drop, drop-cons, false, fold, get_or, if◌then◌else◌, inl, inr, is_some, length, length-append, map, nat_eq, nat_lt, refl, rules, set, subst, suc, sum_by, sym, true, vec_len, zero, ℕ, ◌&&◌, ◌++◌, ◌+◌, ◌-◌, ◌<◌, ◌^◌, ◌||◌, ◌∙◌, ◌∷◌, ◌≡◌, ◌≤◌, ◌⊎◌}
pub use Rattle.std.proofs.Math.Logic.{∥∥₁_elim}
pub use Rattle.std.proofs.Props.{props}
pub use Rattle.std.proofs.lemmas.Bool.{not-false}
pub use Rattle.std.proofs.lemmas.Grind.{merely}
pub use Rattle.std.proofs.lemmas.List.{append-nil, drop_all, get_or-map, get_or_default, length-map, map-append}
pub use Rattle.std.proofs.lemmas.List.Sorted.{All-permutation, Contains-permutation, IsNonDecreasingBy-from_sort_by_key, IsPermutation-keeps, IsPermutation-refl, IsPermutation-swap, IsPermutation-sym, IsPermutation-trans, length_permutation, sum_by-IsPermutation}
pub use Rattle.std.proofs.lemmas.List.Sums.{sum_by-append, sum_by-cons}
pub use Rattle.std.specs.Cmp.{nat_eq_equiv}
pub use Rattle.std.specs.Cmp.Lexicographic.{bytes_decides, nat_list_eq_equiv}
pub use Rattle.std.specs.List.{All, Contains, list_any, position_or_len, swap}
pub use Rattle.std.specs.List.Sorted.{IsNonDecreasingBy, IsPermutation}
pub use Rattle.std.specs.Map.{lookup}
pub use Rattle.std.specs.Option.{option_map}
pub use Rattle.std.specs.Prelude.{Err, Ok, OnOk, Result, position, slice_get, unwrap_or}
