-- What the proofs of this crate take of std, and what two of them or more cite of other modules, passed on from one place. Declares nothing.
pub use Rattle.lucid_parse.specs.declared.operator.Operator.{Operator}
pub use Rattle.lucid_parse.specs.declared.operator.Operator.TheVariants.{Data}
pub use Rattle.lucid_ops.specs.declared.op.Form.TheVariants.{Before, Between, Called}
pub use Rattle.lucid_parse.proofs.Sound.{looser}
pub use Rattle.lucid_parse.specs.Grammar.{PlacedTerminal, PlainTerminal, Spells, as_form, terminal_at}
pub use Rattle.lucid_parse.specs.Terminals.{StandsFor}
pub use Rattle.lucid_print.specs.Again.{all_unplaced, defs_unplaced, unplaced}
unfoldable pub use Rattle.lucid_print.specs.Canonical.{definitions, source}
pub use Rattle.lucid_print.specs.Canonical.{form_text, parted, parted_more, parts, placed, texts}
pub use Rattle.lucid_print.specs.Pieces.{sign, steps_left, work, work_in}
pub use Rattle.lucid_print.specs.Styles.{style}
pub use Rattle.lucid_print.specs.Views.{part_of}
pub use Rattle.lucid_scan.specs.declared.token.TokenKind.{TokenKind}
pub use Rattle.lucid_tree.specs.Tree.{PlainDefs, PlainTree, PlainTrees, block, call, defines, defines_current, defines_function, form, name, no_defs, no_trees, tree}
pub use Rattle.lucid_value.specs.Laws.{TextIsRead}
pub use Rattle.lucid_value.specs.Plain.{PlainValue}
pub use Rattle.std.proofs.Common.{Bool, Err, List, None, Ok, Option, Result, Some, [], ap, append-nil, append_assoc, arith, cond, drop, eqb, false, inl, inr, le_refl, length, length-append, not, refl, subst, suc, sym, take, true, zero, zero-le, ℕ, ◌&&◌, ◌++◌, ◌+◌, ◌-◌, ◌<◌, ◌^◌, ◌||◌, ◌∙◌, ◌∷◌, ◌≡◌, ◌≤◌}
pub use Rattle.std.proofs.Math.Seq.{drop-append_seam, take-append_seam}
pub use Rattle.std.proofs.lemmas.Bool.{and_from, and_parts, cond-false, cond-true, eqb-true, le-leb, lt-ltb, ltb-false, not-true, or_cases, or_left, or_right}
pub use Rattle.std.proofs.lemmas.Bool.Decides.{nat_tests}
pub use Rattle.std.proofs.lemmas.Fmt.{decimal_is_IsNumeral_wide}
pub use Rattle.std.specs.Borrow.{Bor}
pub use Rattle.std.specs.Char.{is_ascii_digit}
pub use Rattle.std.specs.Fmt.{decimal}
pub use Rattle.std.specs.List.{All}
pub use Rattle.std.specs.Option.{option_map, option_or}
pub use Rattle.std.specs.Prelude.{codes, max, nat_eq, neg_ℤ, pos, slice_range}
pub use Rattle.std.specs.Result.{OnOk}
