-- What the proofs of this crate take of std, and what two of them or more cite of other modules, passed on from one place. Declares nothing.
pub use Rattle.lucid_lists.proofs.Numbers.{above_differs, below_differs, number_itself}
pub use Rattle.lucid_tags.specs.declared.Key.{Key}
pub use Rattle.lucid_tasks.specs.Laid.{Trims, Values, laid_from, part_number}
pub use Rattle.lucid_tasks.specs.Numbered.{SetsOne, value_at}
pub use Rattle.lucid_tasks.specs.Rows.{AreTasks, Asked, ChangesOnly, Got, Idle, IsIdlePart, IsPast, IsRow, PartState, SetsOnly, TaskRow, all_idle, asked_slot, child_of, emptied, fresh, got_of, got_value, is_free, is_ready, parent_of, row_at, state_at, taken, with_cursor, with_part}
pub use Rattle.lucid_tasks.specs.Slots.{RiseFrom, is_listed}
pub use Rattle.lucid_tasks.specs.declared.Part.{Part}
pub use Rattle.lucid_tasks.specs.declared.Task.{Task}
pub use Rattle.lucid_tasks.specs.declared.rows.Row.{Row}
pub use Rattle.lucid_value.specs.declared.Value.{Value}
pub use Rattle.std.proofs.Common.{Bool, Err, IfErr, IfOk, IfSome, IsSome, List, None, Ok, Option, Result, Some, [], ap, arith, cond, false, get_or, inl, inr, le_refl, length, length-append, refl, rules, set, subst, suc, sym, true, true≢false, vec_len, zero, ℕ, ◌&&◌, ◌*◌, ◌++◌, ◌+◌, ◌-◌, ◌<◌, ◌==◌, ◌^◌, ◌||◌, ◌∙◌, ◌∷◌, ◌≡◌, ◌≢◌, ◌≤◌, ◌⊎◌}
pub use Rattle.std.proofs.lemmas.Bool.{cases_eq, eqb-true}
pub use Rattle.std.proofs.lemmas.Bool.Decides.{nat_tests}
pub use Rattle.std.proofs.lemmas.Cmp.{ranked}
pub use Rattle.std.proofs.lemmas.List.{get_or_default}
pub use Rattle.std.proofs.lemmas.List.Edits.{get_or-insert_above, get_or-insert_at, get_or-insert_below, get_or-remove_above, get_or-remove_below, length-insert, length-remove}
pub use Rattle.std.proofs.lemmas.List.Sorted.{IsNonDecreasingBy-from_default, answers_always, searched}
pub use Rattle.std.proofs.lemmas.Option.{none-some, slice_get_within}
pub use Rattle.std.specs.List.{list_all}
pub use Rattle.std.specs.List.Sorted.{IsBinarySearchResult, IsNonDecreasingBy, IsSearchInRange}
pub use Rattle.std.specs.Ordering.{nat_cmp, ordering_index}
pub use Rattle.std.specs.Prelude.{option_and_then, option_map, vec_capacity}
