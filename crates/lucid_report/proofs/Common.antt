-- What the proofs of this crate take of std, and what two of them or more cite of other modules, passed on from one place. Declares nothing.
pub use Rattle.lucid_ports.proofs.FaultLemmas.{rises_from}
pub use Rattle.lucid_ports.specs.Told.{Told, told}
pub use Rattle.lucid_ports.specs.Writing.{with_all}
pub use Rattle.lucid_ports.specs.declared.fault.PortFault.TheVariants.{Failed}
pub use Rattle.lucid_report.specs.Lines.{line_of}
pub use Rattle.lucid_report.specs.Telling.{WritesFront, WritesWhole}
pub use Rattle.std.proofs.Common.{Err, List, None, Ok, Option, Some, [], ap, append_assoc, arith, drop, get_or, length, refl, subst, sym, ℕ, ◌++◌, ◌+◌, ◌<◌, ◌∙◌, ◌∷◌, ◌≡◌, ◌≤◌}
pub use Rattle.std.proofs.lemmas.List.{take-append-drop, take-append-le, take_more}
pub use Rattle.std.proofs.lemmas.Result.{err_from_is_err_and}
pub use Rattle.std.specs.Prelude.{decimal}
