-- What the proofs of this crate take of std, and what two of them or more cite of other modules, passed on from one place. Declares nothing.
pub use Rattle.lucid_parse.specs.declared.operator.Operator.{Operator}
pub use Rattle.lucid_parse.specs.declared.operator.Operator.TheVariants.{Data}
pub use Rattle.lucid_ops.specs.declared.op.Form.{Form}
pub use Rattle.lucid_ops.specs.declared.op.Form.TheVariants.{Before, Between, Called}
pub use Rattle.lucid_parse.specs.Build.{PlainPiles, built, gather, no_piles, plain_piles, put_on}
unfoldable pub use Rattle.lucid_parse.specs.Depth.{at_depth}
pub use Rattle.lucid_parse.specs.Depth.{IsLeast, copies, least_in, search_from}
pub use Rattle.lucid_parse.specs.Fill.{fill_item, fill_state, fill_terminal}
unfoldable pub use Rattle.lucid_parse.specs.Flat.{written}
pub use Rattle.lucid_parse.specs.Flat.{node, with_parameters, written_all, written_defs, written_parts}
pub use Rattle.lucid_parse.specs.Grammar.{Current, Defined, Function, Parameter, PlacedTerminal, Plain, PlainTerminal, Spells, SpellsArgs, SpellsDefs, SpellsNames, arity_of, def_before, defs_and, head, left, level_of, names_of, operator_in, places_of, right, terminal_at, trees_and}
pub use Rattle.lucid_parse.specs.Laws.{TerminalsAreUnique}
pub use Rattle.lucid_parse.specs.Machine.{PlainFocus, PlainFrame, PlainItem, PlainState, State, after_frame, begin, begun, called_at, close, definition_in, feeds, finish, finish_at, finished, if_empty, inner_frames, inner_out, nodes, prefixed, settle, settle_at, shift, start, state, step, step_at, step_frozen, step_headed, step_heads, step_listed, step_named, step_names, step_opens, step_ready, takes}
pub use Rattle.lucid_parse.specs.Spelled.{SpellsTree}
pub use Rattle.lucid_parse.specs.Spellings.{pair_of}
unfoldable pub use Rattle.lucid_parse.specs.Terminals.{form_terminals}
pub use Rattle.lucid_parse.specs.Terminals.{Terminals, fixed_terminal, terminal_in}
pub use Rattle.lucid_parse.specs.Verdict.{Begins, IsFault, SpellsNone}
pub use Rattle.lucid_parse.specs.Views.{items_of, name_now, placed_of, terminals_of, value_now}
pub use Rattle.lucid_parse.specs.declared.state.CalledOperator.{CalledOperator}
pub use Rattle.lucid_parse.specs.declared.state.Defines.{Defines}
pub use Rattle.lucid_parse.specs.declared.state.Definition.{Definition}
pub use Rattle.lucid_parse.specs.declared.state.Frame.{Frame}
pub use Rattle.lucid_parse.specs.declared.state.Item.{Item}
pub use Rattle.lucid_parse.specs.declared.terminal.Terminal.{Terminal}
pub use Rattle.lucid_parse.specs.declared.terminal.TerminalAt.{TerminalAt}
pub use Rattle.lucid_scan.specs.declared.token.Token.{Token}
pub use Rattle.lucid_tree.specs.Lists.{trees_of}
pub use Rattle.lucid_tree.specs.Size.{count}
pub use Rattle.lucid_tree.specs.Tree.{PlainDefs, PlainTree, PlainTrees, block, call, defines, defines_current, defines_function, form, no_defs, no_trees, tree}
pub use Rattle.lucid_tree.specs.WellMade.{IsWellMade, depth, places}
pub use Rattle.lucid_value.specs.Plain.{PlainValue}
pub use Rattle.lucid_value.specs.declared.Value.{Value}
pub use Rattle.std.proofs.Common.{Bool, Contains, Err, List, None, Ok, Option, Result, Some, [], add-one, ap, append-nil, append_assoc, arith, cond, drop, eqb, false, get_or, inl, inr, le_refl, leb, length, length-append, length-drop, lit≤, map, min, option_and_then, pos, pred, refl, reverse, subst, suc, sym, take, true, zero, zero-le, ℕ, ◌++◌, ◌+◌, ◌<◌, ◌||◌, ◌∙◌, ◌∷◌, ◌≡◌, ◌≤◌, ◌⊎◌}
pub use Rattle.std.proofs.lemmas.Bool.{and_from, and_parts, cases_lt, eq-eqb, eqb-false, eqb-true, false_from_ne_true, le-leb, leb-true, lt-ltb, ltb-true, ne_eqb}
pub use Rattle.std.proofs.lemmas.Bool.Decides.{Decides-eqb}
pub use Rattle.std.proofs.lemmas.List.{get_or-map, length-map, map-append, reverse-append, take-append-drop, take-take, take_all, take_more}
pub use Rattle.std.proofs.lemmas.List.Elements.{All-cons, All-contains, All-nil, All-weaker}
pub use Rattle.std.proofs.lemmas.Option.{cond_some, same_Some}
pub use Rattle.std.proofs.lemmas.Result.{IfOk-weaker}
pub use Rattle.std.proofs.lemmas.Slice.Eq.{slice_eq-Decides}
pub use Rattle.std.specs.Borrow.{Bor}
pub use Rattle.std.specs.List.{list_all, list_any}
pub use Rattle.std.specs.Option.{is_some, option_map, option_or}
pub use Rattle.std.specs.Prelude.{IfErr, IfOk, nat_eq, nat_le, nat_lt, ◌&&◌}
