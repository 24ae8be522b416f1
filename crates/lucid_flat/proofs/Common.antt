-- What the proofs of this crate take of std, and what two of them or more cite of other modules, passed on from one place. Declares nothing.
pub use Rattle.lucid_equations.specs.Sound.{ScopeIs}
pub use Rattle.lucid_equations.specs.declared.rows.Entry.{Entry}
pub use Rattle.lucid_equations.specs.declared.rows.Entry.TheVariants.{Plain}
pub use Rattle.lucid_equations.specs.declared.rows.NameRow.{NameRow}
pub use Rattle.lucid_equations.specs.declared.rows.Node.{Node}
pub use Rattle.lucid_equations.specs.declared.rows.Node.TheVariants.{Apply}
pub use Rattle.lucid_equations.specs.declared.rows.NodeRow.{NodeRow}
pub use Rattle.lucid_equations.specs.declared.rows.PlaceRow.{PlaceRow}
pub use Rattle.lucid_equations.specs.declared.rows.ScopeKind.{ScopeKind}
pub use Rattle.lucid_equations.specs.declared.rows.ScopeKind.TheVariants.{Root}
pub use Rattle.lucid_equations.specs.declared.rows.ScopeRow.{ScopeRow}
pub use Rattle.lucid_equations.specs.declared.table.Table.{Table}
pub use Rattle.lucid_flat.specs.FlatTables.{Are32, AreTableLines, HasText, IsTextOf, NodeFits, RowFits}
pub use Rattle.lucid_flat.specs.FlatText.{FlatRow, constant_row, entry_number, entry_word, first_line, flat_lines, flat_rows, form_word, input_row, kind_word, name_row, node_numbers, node_row, node_words, op_word, place_row, root_row, row_line, scope_row}
unfoldable pub use Rattle.lucid_flat.specs.Forms.{form_node, op_of}
pub use Rattle.lucid_flat.specs.Forms.{has_form}
pub use Rattle.lucid_flat.specs.Gathered.{AreBegun, CannotCome, IsBegun, next_part, part_behind, part_in, row_part, rows_in, rows_so_far, table_of}
pub use Rattle.lucid_flat.specs.LinesRead.{AreKept, lines_in, lines_of_rows}
pub use Rattle.lucid_flat.specs.RowLines.{IsRowOf, plain_row}
unfoldable pub use Rattle.lucid_flat.specs.RowTails.{input_of, name_of, node_row_of, place_of, scope_of, tail_row}
pub use Rattle.lucid_flat.specs.RowTails.{entry_of, kind_of}
pub use Rattle.lucid_flat.specs.Shown.{IsNoRoot, line_of}
unfoldable pub use Rattle.lucid_flat.specs.Words.{exactly, three_of}
pub use Rattle.lucid_flat.specs.Words.{few_numbers_of, listed}
pub use Rattle.lucid_flat.specs.declared.read.FlatLines.{FlatLines}
pub use Rattle.lucid_flat.specs.declared.rows.Row.{Row}
pub use Rattle.lucid_flat.specs.declared.words.Three.{Three}
pub use Rattle.lucid_ops.specs.declared.op.Op.{Op}
pub use Rattle.lucid_ops.specs.declared.op.Op.TheVariants.{Add}
pub use Rattle.lucid_texts.proofs.Bytes.{IsSolid, decimal_solid, decimals_solid, solid_lacks}
pub use Rattle.lucid_texts.proofs.Spaced.{appended}
pub use Rattle.lucid_texts.proofs.WordLemmas.{all-append, no_word, take_number-decimal, taken}
pub use Rattle.lucid_texts.specs.Laws.{OneValue}
pub use Rattle.lucid_texts.specs.TextLines.{CanGoOn, CannotGoOn, Lacks, text_of}
unfoldable pub use Rattle.lucid_texts.specs.Words.{take_number}
pub use Rattle.lucid_texts.specs.Words.{is_end, numbers_of, spaced}
pub use Rattle.lucid_value.specs.Plain.{PlainValue}
pub use Rattle.lucid_value.specs.View.{plain}
pub use Rattle.lucid_value.specs.declared.Value.{Value}
pub use Rattle.std.proofs.Common.{Bool, List, None, Option, Some, [], ap, append_assoc, arith, cond, drop, false, get_or, inl, inr, length, length-append, map, refl, subst, suc, sym, take, true, zero, ℕ, ◌++◌, ◌+◌, ◌-◌, ◌<◌, ◌^◌, ◌↔◌, ◌∙◌, ◌∷◌, ◌≡◌, ◌≢◌, ◌≤◌, ◌⊎◌}
pub use Rattle.std.proofs.lemmas.Bool.{and_parts, eq-eqb, eqb-true, false≢true, le-ltb, lt-ltb, ltb-true, ne_eqb}
pub use Rattle.std.proofs.lemmas.List.{append-nil, length-map}
pub use Rattle.std.proofs.lemmas.List.Elements.{filter_map-append, recursion_from_All}
pub use Rattle.std.proofs.lemmas.List.Splits.{join_with_byte-slice_split}
pub use Rattle.std.proofs.lemmas.Option.{MatchOption-at_none, MatchOption-at_some, cond_some, none-some, option_and_then_some, same_Some}
pub use Rattle.std.proofs.lemmas.Result.{IfOk-weaker}
pub use Rattle.std.proofs.lemmas.Slice.Eq.{bytes_eq-Decides}
pub use Rattle.std.specs.Bool.{MatchBool}
pub use Rattle.std.specs.List.{AllByRecursion, filter_map, find, flat_map, join_with_byte, list_all}
pub use Rattle.std.specs.Option.{option_and_then, option_copied, option_map}
pub use Rattle.std.specs.Prelude.{IsTrue, codes, decimal, nat_lt, ◌==◌}
pub use Rattle.std.specs.Str.{bytes_eq}
