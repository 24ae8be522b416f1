-- What the proofs of this crate take of std, and what two of them or more cite from elsewhere, passed on from one place. Declares nothing.
pub use Rattle.lucid_words.specs.Asked.{PlainWords, plain_words}
pub use Rattle.std.proofs.Common.{Err, List, None, Ok, Option, Some, [], ap, inl, inr, map, refl, rules, subst, sym, true, ℕ, ◌++◌, ◌∙◌, ◌∷◌, ◌≡◌, ◌≢◌}
pub use Rattle.std.proofs.lemmas.Result.{IfOk-weaker, err_from_is_err_and}
pub use Rattle.std.specs.Prelude.{take}
pub use Rattle.std.specs.String.{string_bytes}
