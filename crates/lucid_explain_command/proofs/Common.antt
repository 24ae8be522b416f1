-- What the proofs of this crate take of std, and what two of them or more cite of other modules, passed on from one place. Declares nothing.
pub use Rattle.clap.specs.Words.{Text}
pub use Rattle.lucid_explain_report.specs.Said.{given_file}
pub use Rattle.lucid_ports.specs.Told.{told}
pub use Rattle.lucid_words.specs.Asked.{plain_words}
pub use Rattle.lucid_words.specs.Plain.{plain_given}
pub use Rattle.lucid_words.specs.declared.Given.{Given}
pub use Rattle.std.proofs.Common.{List, Option, [], ap, append_assoc, map, refl, subst, sym, take, ℕ, ◌++◌, ◌+◌, ◌∙◌, ◌∷◌, ◌≡◌}
pub use Rattle.std.proofs.lemmas.List.{append-nil, map-append}
pub use Rattle.std.proofs.lemmas.Result.{IfOk-weaker, on_ok_weaker}
pub use Rattle.std.specs.Prelude.{Result}
pub use Rattle.std.specs.String.{string_bytes}
