-- What the proofs of this crate take of std, passed on from one place. Declares nothing.
pub use Rattle.std.proofs.Common.{◌≡◌, ◌≢◌, ◌⊎◌, ℕ, zero, suc, ◌+◌, ◌-◌, ◌<◌, ◌≤◌, Bool, true, false, ◌||◌, List, [], ◌∷◌, ◌++◌, map, length, get_or, take, drop, Option, Some, None, refl, sym, ap, subst, ◌∙◌, inl, inr, arith, rules, append_assoc, append-nil}
pub use Rattle.std.specs.Prelude.{All, Contains, IsSome, MatchOption, slice_get, if◌then◌else◌}
pub use Rattle.std.proofs.lemmas.List.{drop_more, take_more, take_all, get_or-drop, get_or-take, length-take, length-drop, take-append-drop}
