-- What the proofs of this crate take of std, and what two of them or more cite of other modules, passed on from one place. Declares nothing.
pub use Rattle.lucid_texts.specs.TextLines.{CanGoOn, CannotGoOn, IsFirstWrongLine, Lacks, ended, text_of, whole_lines}
unfoldable pub use Rattle.lucid_texts.specs.Words.{number_of}
pub use Rattle.lucid_texts.specs.Words.{HasNone, is_end, words_left}
pub use Rattle.lucid_value.specs.Plain.{PlainValue, is_value}
pub use Rattle.lucid_value.specs.ValueText.{value_text}
pub use Rattle.std.proofs.Common.{Bool, Err, List, None, Ok, Option, Result, Some, [], ap, append_assoc, arith, cond, drop, false, inl, inr, is_some, length, length-append, map, negsuc, pos, refl, subst, suc, sym, take, true, zero, ℕ, ◌&&◌, ◌++◌, ◌+◌, ◌<◌, ◌^◌, ◌∙◌, ◌∷◌, ◌≡◌, ◌≤◌, ◌⊎◌}
pub use Rattle.std.proofs.lemmas.Bool.{MatchBool-at_false, MatchBool-at_true, and_parts, cases_order, eqb-false, eqb-true, le-leb, lt-ltb, ltb-true, ne_eqb}
pub use Rattle.std.proofs.lemmas.Fmt.{IsAscii-decimal, decimal_is_IsNumeral, decimal_is_IsNumeral_wide, parse-decimal}
pub use Rattle.std.proofs.lemmas.List.{append-nil, take-append-drop, take-take}
pub use Rattle.std.proofs.lemmas.List.Elements.{All-from_recursion, recursion_from_All}
pub use Rattle.std.proofs.lemmas.List.Splits.{slice_split_at, slice_split_none}
pub use Rattle.std.proofs.lemmas.Slice.Eq.{bytes_eq-Decides}
pub use Rattle.std.proofs.lemmas.Str.{IsUtf8-from_ascii}
pub use Rattle.std.proofs.lemmas.Str.Parse.{digit_from_value}
pub use Rattle.std.specs.Char.{is_ascii_alphabetic, is_ascii_alphanumeric}
pub use Rattle.std.specs.Int.{IsInRange}
pub use Rattle.std.specs.List.{AllByRecursion, join_with_byte, list_all, onto_first, slice_split}
pub use Rattle.std.specs.Option.{option_and_then, option_copied}
pub use Rattle.std.specs.Prelude.{IsTrue, OnOk, codes, decimal, is_ok, ◌==◌}
pub use Rattle.std.specs.Str.{IsUtf8, bytes_eq}
pub use Rattle.std.specs.Str.Parse.{AllDigits, digits_value}
pub use Rattle.std.specs.declared.alloc.AllocError.{AllocError}
