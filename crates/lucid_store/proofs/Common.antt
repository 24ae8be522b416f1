-- What the proofs of this crate take of std, and what two of them or more cite of other modules, passed on from one place. Declares nothing.
pub use Rattle.lucid_store.specs.Ages.{zeros}
pub use Rattle.lucid_store.specs.Beside.{Sets, ages_of, beside, value_in}
pub use Rattle.lucid_store.specs.Entries.{older, renewed, swept, within}
pub use Rattle.lucid_store.specs.Stored.{Entry}
pub use Rattle.lucid_tags.specs.EqualityDecides.{same_key_equiv, same_key_is_equality}
pub use Rattle.lucid_tags.specs.Keys.{same_key}
pub use Rattle.lucid_tags.specs.declared.Key.{Key}
pub use Rattle.lucid_value.specs.declared.Value.{Value}
pub use Rattle.std.proofs.Common.{Bool, IfSome, List, None, Option, Some, [], ap, arith, cond, drop, false, if◌then◌else◌, is_some, length, map, not, position, refl, slice_get, subst, suc, sym, take, true, zero, ℕ, ◌++◌, ◌+◌, ◌-◌, ◌<◌, ◌∙◌, ◌∷◌, ◌≡◌, ◌≤◌, ◌⊎◌}
pub use Rattle.std.proofs.lemmas.Bool.Decides.{nat_tests}
pub use Rattle.std.proofs.lemmas.List.{append-nil, get_or-set_other, get_or-set_same, get_or-take, get_or_default, length-append, length-map, length-set, length-take-le}
pub use Rattle.std.proofs.lemmas.List.Edits.{map_over_more}
pub use Rattle.std.proofs.lemmas.Option.{get_or_from_slice_get, slice_get-map, slice_get_within}
pub use Rattle.std.specs.List.{AllWithin, IsDistinct, position_or_len, swap_remove}
pub use Rattle.std.specs.Map.{keys_of, lookup, lookup_key, values_of}
pub use Rattle.std.specs.Option.{option_to_list}
pub use Rattle.std.specs.Prelude.{nat_le, option_and_then, option_copied, option_map, slice_set, ◌==◌}
pub use Rattle.std.specs.Vec.{vec_capacity}
