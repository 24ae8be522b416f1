-- What the proofs of this crate take of std, and what two of them or more cite of other modules, passed on from one place. Declares nothing.
pub use Rattle.lucid_inputs.specs.Inputs.{stream_at}
pub use Rattle.lucid_inputs.specs.Reading.{IsWithin, ReadsOn}
pub use Rattle.lucid_inputs.specs.Steps.{Step, Takes, last_element, line_with, step_bytes, takes_line, takes_part, with_end, with_line, with_part}
pub use Rattle.lucid_inputs.specs.Streams.{Fits, FitsPlace, Stream, all_bytes, fresh_stream, line_ends}
pub use Rattle.lucid_inputs.specs.View.{IsRead, element_of, stream_of}
pub use Rattle.lucid_lists.proofs.Lists.{slice_get-set_same}
pub use Rattle.lucid_ports.specs.World.{Contents, Place, World, advanced}
unfoldable pub use Rattle.lucid_value.specs.Elements.{element, line_value_of}
pub use Rattle.lucid_value.specs.Elements.{element_of_line}
pub use Rattle.lucid_value.specs.Lines.{IsOverlong, lines_of}
pub use Rattle.lucid_value.specs.Plain.{PlainValue, eod}
pub use Rattle.std.proofs.Common.{Err, IfSome, List, MatchOption, None, Ok, Option, Some, [], add-one, ap, append_assoc, arith, cond, drop, false, get_or, inl, inr, le_refl, length, map, max, min, option_map, refl, rules, slice_set, subst, suc, sym, take, true, zero, ℕ, ◌++◌, ◌+◌, ◌-◌, ◌<◌, ◌∙◌, ◌∷◌, ◌≡◌, ◌≤◌, ◌⊎◌}
pub use Rattle.std.proofs.lemmas.Bool.{cases_eq, cases_lt, eqb-true, false_from_ne_true, lt-leb}
pub use Rattle.std.proofs.lemmas.List.{append-nil, drop_all, drop_at, length-append, length-map, length-set, length-take-le, map-append, nil_from_length, take-append-drop, take-take, take_all, take_at, take_more}
pub use Rattle.std.proofs.lemmas.List.Sums.{count_by_more_no, sum_by-append, sum_by-cons, sum_by-take-le}
pub use Rattle.std.proofs.lemmas.Option.{same_Some, slice_get-map, slice_get_past, slice_get_read, slice_get_within}
pub use Rattle.std.specs.Io.{StartsWith}
pub use Rattle.std.specs.List.{concat}
pub use Rattle.std.specs.Prelude.{AllPairs, IfErr, IfOk, IsSomeAnd, IsTrue, OnOk, Result, not, slice_index_or, unwrap_or, ◌==◌}
