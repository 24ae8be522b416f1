-- What the proofs of this crate take of std, and what two of them or more cite of other modules, passed on from one place. Declares nothing.
pub use Rattle.lucid_lists.proofs.Lists.{slice_get-set_other, slice_get-set_same}
pub use Rattle.lucid_ports.specs.Endless.{moved, position_in}
pub use Rattle.lucid_ports.specs.EndlessView.{endless_place, spot_of}
pub use Rattle.lucid_ports.specs.Files.{bytes_at, bytes_named}
pub use Rattle.lucid_ports.specs.Memory.{fail_at}
pub use Rattle.lucid_ports.specs.MemoryView.{memory_place}
pub use Rattle.lucid_ports.specs.World.{Contents, IsShown, KeepsOthers, advanced}
pub use Rattle.lucid_ports.specs.Writing.{with_front}
pub use Rattle.lucid_ports.specs.declared.endless.EndlessPlace.{EndlessPlace}
pub use Rattle.lucid_ports.specs.declared.files.MemoryFile.{MemoryFile}
pub use Rattle.lucid_ports.specs.declared.memory_places.FailAt.{FailAt}
pub use Rattle.lucid_ports.specs.declared.memory_places.MemoryPlace.{MemoryPlace}
pub use Rattle.std.proofs.Common.{Contains, Err, IfNone, IfSome, IsSome, IsSomeAnd, List, None, Ok, Option, Result, Some, [], add_comm, ap, append-nil, append_assoc, arith, bytes_eq, cond, drop, drop-cons, get_or, inl, inr, le_refl, length, length-take-le, option_map, refl, rules, subst, suc, sym, take, take-add, take_all, true, vec_len, ℕ, ◌%◌, ◌++◌, ◌+◌, ◌-◌, ◌<◌, ◌^◌, ◌↔◌, ◌∙◌, ◌∷◌, ◌≡◌, ◌≤◌, ◌⊎◌}
pub use Rattle.std.proofs.Math.Nat.{add-mod-mod, mod-mod}
pub use Rattle.std.proofs.Math.Seq.{take-append-add}
pub use Rattle.std.proofs.lemmas.Bool.{cases_lt}
pub use Rattle.std.proofs.lemmas.List.{drop-drop, nil_from_length, take_rest}
pub use Rattle.std.proofs.lemmas.Option.{slice_get_read}
pub use Rattle.std.specs.Io.{StartsWith}
pub use Rattle.std.specs.Io.KnownBytes.{Appends, Keeps, WriteAppends}
pub use Rattle.std.specs.Result.{result_ok}
pub use Rattle.std.specs.String.{string_bytes}
