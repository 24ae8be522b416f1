-- What the proofs of what a value needs take of std, and what two of them or more cite from elsewhere, passed on from one place. Declares nothing.
pub use Rattle.lucid_cert_rules.specs.Certificates.{plain_judgment}
pub use Rattle.lucid_tags.proofs.ListLemmas.{inserted-absent, inserted-present, none_passes}
pub use Rattle.std.proofs.Common.{◌⊎◌, Bool, List, None, Some, [], ap, append-nil, append_assoc, false, inl, inr, map, not, refl, subst, sym, true, ℕ, ◌++◌, ◌+◌, ◌||◌, ◌∙◌, ◌∷◌, ◌≡◌}
pub use Rattle.std.proofs.lemmas.Result.{on_ok_weaker}
pub use Rattle.std.specs.List.{list_any}
