-- What the proofs of this crate take of std, and what two of them or more cite of other modules, passed on from one place. Declares nothing.
pub use Rattle.lucid_retire.specs.Aging.{Aging, IsPaced, most_of}
pub use Rattle.lucid_store.specs.Entries.{IsOneForEach, IsSwept, aged, cleared, count_of, entry_at, older, swept}
pub use Rattle.lucid_store.specs.Stored.{Entry, Stored}
pub use Rattle.lucid_tags.specs.EqualityDecides.{same_key_equiv, same_key_is_equality}
pub use Rattle.lucid_tags.specs.Keys.{same_key}
pub use Rattle.lucid_tags.specs.declared.Key.{Key}
pub use Rattle.std.proofs.Common.{Bool, List, None, Option, Some, [], ap, arith, cond, false, inl, inr, is_some, length, length-append, refl, subst, suc, sym, take, true, zero, ℕ, ◌*◌, ◌++◌, ◌+◌, ◌-◌, ◌<◌, ◌^◌, ◌||◌, ◌∙◌, ◌∷◌, ◌≡◌, ◌≤◌, ◌⊎◌}
pub use Rattle.std.proofs.lemmas.Bool.{le-ltb, lt-ltb}
pub use Rattle.std.proofs.lemmas.Bool.Decides.{nat_tests}
pub use Rattle.std.proofs.lemmas.List.Folds.{list_any-append}
pub use Rattle.std.proofs.lemmas.Map.Entries.{length-keys_of}
pub use Rattle.std.proofs.lemmas.Map.Made.{is_some-lookup, length-le_from_is_member}
pub use Rattle.std.specs.Map.{keys_of, lookup}
pub use Rattle.std.specs.Prelude.{MatchBool, if◌then◌else◌, nat_le, nat_lt, option_and_then, option_map, ◌==◌}
pub use Rattle.std.specs.Set.{is_member}
