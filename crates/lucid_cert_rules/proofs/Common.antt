-- What the proofs of this crate take of std, and what two of them or more cite of other modules, passed on from one place. Declares nothing.
pub use Rattle.lucid_texts.proofs.Bytes.{IsSolid, decimal_solid, solid_lacks}
pub use Rattle.lucid_texts.proofs.WordLemmas.{all-append, is_end-words_of}
pub use Rattle.lucid_texts.specs.Laws.{OneValue}
pub use Rattle.lucid_texts.specs.TextLines.{CanGoOn, CannotGoOn, Lacks, text_of}
pub use Rattle.lucid_texts.specs.ValueLines.{IsValueOf}
pub use Rattle.lucid_texts.specs.Words.{AreBelow, is_end, spaced, words_left, words_of}
pub use Rattle.lucid_value.specs.ValueText.{value_text}
pub use Rattle.lucid_value.specs.View.{plain}
pub use Rattle.lucid_value.specs.declared.Value.{Value}
pub use Rattle.lucid_cert_rules.specs.Certificates.{PlainJudgment, plain_judgment}
pub use Rattle.lucid_cert_rules.specs.LinesRead.{AllFit, line_of, lines_in, why_of}
pub use Rattle.lucid_cert_rules.specs.RowLines.{IsRowOf, IsTailOf, judgment_tail}
pub use Rattle.lucid_cert_rules.specs.WhyText.{WhyRow, context_row, judgment_numbers, judgment_row, row_head, row_line, row_rest, why_lines, why_rows}
pub use Rattle.lucid_cert_rules.specs.WhyTexts.{AreWhyLines, ContextFits, HasText, IsTextOf, JudgmentFits, MayShow, RowFits}
unfoldable pub use Rattle.lucid_cert_rules.specs.WordsRead.{call_of, context_of, front_of, frozen_of}
pub use Rattle.lucid_cert_rules.specs.WordsRead.{take_uses}
pub use Rattle.lucid_cert_rules.specs.declared.read_rows.Front.{Front}
pub use Rattle.lucid_cert_rules.specs.declared.rows.ContextRow.{ContextRow}
pub use Rattle.lucid_cert_rules.specs.declared.rows.ContextRow.TheVariants.{Call, Frozen}
pub use Rattle.lucid_cert_rules.specs.declared.rows.JudgmentRow.{JudgmentRow}
pub use Rattle.lucid_cert_rules.specs.declared.rows.Why.{Why}
pub use Rattle.std.proofs.Common.{Bool, List, None, Option, Some, [], ap, append_assoc, arith, cond, false, get_or, inl, inr, length, length-append, map, not, pos, refl, subst, suc, sym, take, true, zero, ℕ, ◌++◌, ◌+◌, ◌-◌, ◌<◌, ◌^◌, ◌↔◌, ◌∙◌, ◌∷◌, ◌≡◌, ◌≤◌, ◌⊎◌}
pub use Rattle.std.proofs.lemmas.Bool.{eqb-false, eqb-true}
pub use Rattle.std.proofs.lemmas.List.{append-nil, length-map}
pub use Rattle.std.proofs.lemmas.List.Elements.{recursion_from_All}
pub use Rattle.std.proofs.lemmas.List.Splits.{join_with_byte-slice_split}
pub use Rattle.std.proofs.lemmas.Option.{MatchOption-at_none, cond_some, none-some, option_and_then_some, same_Some}
pub use Rattle.std.proofs.lemmas.Slice.Eq.{bytes_eq-Decides}
pub use Rattle.std.specs.List.{AllByRecursion, flat_map, join_with_byte}
pub use Rattle.std.specs.Option.{option_and_then, option_copied, option_map}
pub use Rattle.std.specs.Prelude.{codes, decimal, ◌==◌}
pub use Rattle.std.specs.Str.{bytes_eq}
