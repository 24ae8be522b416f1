-- What the proofs of this crate take of std, and what two of them or more cite of other modules, passed on from one place. Declares nothing.
unfoldable pub use Rattle.lucid_value.specs.ListScan.{atom_value, put, text_value}
pub use Rattle.lucid_value.specs.ListScan.{IsScanned, State, go_on, is_atom_byte, is_done, opened, put_some, runs, start, state, state_of, step, step_from, turned}
pub use Rattle.lucid_value.specs.Lists.{fits, joined, onto}
pub use Rattle.lucid_value.specs.Plain.{Items, PlainValue, all_well_formed, eod, fault, int, is_light, is_text, is_text_byte, item, list, may_be_held, nesting, nestings, no_items, text, truth, weight, weights, well_formed, within_limits, word}
pub use Rattle.lucid_value.specs.Reading.{Denotes, DenotesItems, IsListFront, Reads, ReadsLine, all_blank, denotes_eod, denotes_false, denotes_fault, denotes_item, denotes_list, denotes_minus, denotes_none, denotes_number, denotes_text, denotes_true, denotes_word, is_blank, is_number, number_of, stands_apart}
pub use Rattle.lucid_value.specs.Trimming.{IsRead, IsUnquoted, after_blanks}
pub use Rattle.lucid_value.specs.ValueText.{items_text}
pub use Rattle.lucid_value.specs.View.{plain, size_items}
pub use Rattle.lucid_value.specs.declared.Value.{Value}
pub use Rattle.lucid_value.specs.declared.list_scan.Focus.{Focus}
pub use Rattle.lucid_value.specs.declared.list_scan.Focus.TheVariants.{Atom, Closing, Done, Full, Quoted, Ready}
pub use Rattle.lucid_value.specs.declared.list_scan.Front.{Front}
pub use Rattle.std.proofs.Common.{Bool, IsTrue, List, None, Option, Some, [], ap, append_assoc, arith, drop, false, get_or, length-append, map, max, refl, reverse, rules, slice_range, subst, suc, sym, take, true, vec_len, zero, ℕ, ◌&&◌, ◌++◌, ◌^◌, ◌||◌, ◌∙◌, ◌∷◌, ◌≡◌, ◌≢◌, ◌≤◌}
pub use Rattle.std.proofs.Math.Seq.{drop-cons, take-length}
pub use Rattle.std.proofs.lemmas.Bool.{and_parts, eqb-false, eqb-true, le-leb, leb-false, leb-true, lt-ltb, ltb-false, ltb-true}
pub use Rattle.std.proofs.lemmas.Bool.Decides.{Decides-eqb, nat_tests}
pub use Rattle.std.proofs.lemmas.Fmt.{IsAscii-from_digits, decimal_is_IsNumeral_wide}
pub use Rattle.std.proofs.lemmas.Grind.{common_steps}
pub use Rattle.std.proofs.lemmas.List.{length-reverse, map-append, reverse-append, reverse-reverse, take-append-drop, take_more}
pub use Rattle.std.proofs.lemmas.Result.{err_from_is_err_and}
pub use Rattle.std.proofs.lemmas.Slice.Eq.{slice_eq-Decides}
pub use Rattle.std.proofs.lemmas.Str.{IsUtf8-from_ascii}
pub use Rattle.std.proofs.lemmas.Str.Parse.{IsDigitsTest, IsNumeralModel, WeighsDigits, numerals_by_weight, parse_signed_minus, parse_signed_plain}
pub use Rattle.std.specs.Char.{is_ascii_alphabetic, is_ascii_alphanumeric, is_ascii_digit}
pub use Rattle.std.specs.Cmp.Derive.{both_true}
pub use Rattle.std.specs.Fmt.{decimal}
pub use Rattle.std.specs.List.{list_all}
pub use Rattle.std.specs.Option.{option_map}
pub use Rattle.std.specs.Prelude.{Err, Ok, Result, codes, if◌then◌else◌, nat_eq, nat_le, nat_lt, neg_ℤ, negsuc, not, pos, ℤ, ◌↔◌}
pub use Rattle.std.specs.Result.{OkIff, result_ok}
pub use Rattle.std.specs.Str.{IsAscii, IsUtf8}
pub use Rattle.std.specs.Str.Parse.{ParsesSigned}
