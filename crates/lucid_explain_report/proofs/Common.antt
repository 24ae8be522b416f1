-- What the proofs of this crate take of std, and what two of them or more cite of other modules, passed on from one place. Declares nothing.
pub use Rattle.lucid_explain_report.specs.Said.{IsExplanation, Says, SaysWords, names_given}
pub use Rattle.lucid_words.specs.Asked.{plain_words}
pub use Rattle.lucid_words.specs.Plain.{plain_given}
pub use Rattle.std.proofs.Common.{List, ap, append_assoc, length, map, sym, take, ℕ, ◌++◌, ◌∙◌, ◌≡◌}
pub use Rattle.std.proofs.lemmas.List.{take_min}
pub use Rattle.std.proofs.lemmas.Result.{IfOk-weaker, on_ok_weaker}
pub use Rattle.std.specs.Prelude.{codes}
pub use Rattle.std.specs.String.{string_bytes}
