-- What the proofs of this crate take of std, and what two of them or more cite of other modules, passed on from one place. Declares nothing.
pub use Rattle.lucid_scan.specs.Fronts.{Closed, IsLongestMark, is_other}
pub use Rattle.lucid_scan.specs.Refusals.{refusal_of}
pub use Rattle.lucid_scan.specs.Texts.{IsBetween, IsTokenText, first_passes, is_mark, is_text_value, is_word_value, marks}
pub use Rattle.lucid_scan.specs.Tokens.{IsLongest, NoneStands, Stands, Stuck, Tokens, comment, gap, past_gap, stuck_here, stuck_next, token, tokens_end, tokens_next}
pub use Rattle.lucid_scan.specs.declared.token.Token.{Token}
pub use Rattle.lucid_scan.specs.declared.token.TokenKind.{TokenKind}
unfoldable pub use Rattle.lucid_value.specs.Names.{reserved_words}
pub use Rattle.lucid_value.specs.Names.{is_name_byte, is_namelike, is_reserved}
pub use Rattle.lucid_value.specs.Plain.{Items, is_text_byte, list, same_bytes}
pub use Rattle.lucid_value.specs.Reading.{IsListFront, is_number, number_of}
pub use Rattle.std.proofs.Common.{Bool, List, [], ap, append-nil, append_assoc, arith, cond, drop, eqb, false, get_or, inl, inr, le_refl, leb, length, length-append, length-drop, length-take, not, refl, subst, suc, sym, take, true, zero, zero-le, ℕ, ◌&&◌, ◌*◌, ◌++◌, ◌+◌, ◌-◌, ◌<◌, ◌^◌, ◌||◌, ◌∙◌, ◌∷◌, ◌≡◌, ◌≢◌, ◌≤◌, ◌⊎◌}
pub use Rattle.std.proofs.Math.Nat.{mul-le-mul_left, one-le-pow}
pub use Rattle.std.proofs.Math.Numerals.{one-add}
pub use Rattle.std.proofs.Math.Seq.{drop-append_seam, take-append_seam, take-length}
pub use Rattle.std.proofs.lemmas.Bool.{and_from, and_left, and_parts, both_ways, cases_Bool, cases_lt, cond-false, cond-true, eqb-true, false_from_ne_true, leb-true, not-true, not_from_false, or_cases, or_left, or_parts, or_right}
pub use Rattle.std.proofs.lemmas.List.{drop-drop, length-take-le, take-append-drop, take_more, take_rest}
pub use Rattle.std.proofs.lemmas.List.Elements.{All-cons, All-nil}
pub use Rattle.std.proofs.lemmas.List.Sums.{prefix_len-le-length}
pub use Rattle.std.proofs.lemmas.Nat.{pow-add}
pub use Rattle.std.specs.Char.{is_ascii_alphabetic, is_ascii_alphanumeric, is_ascii_digit}
pub use Rattle.std.specs.Cmp.Lexicographic.{same_text}
pub use Rattle.std.specs.Int.{is_in_range}
pub use Rattle.std.specs.List.{All, list_all, list_any, prefix_len}
