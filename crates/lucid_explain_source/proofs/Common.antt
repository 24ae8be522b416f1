-- What the proofs of this crate take of std, and what two of them or more cite of other modules, passed on from one place. Declares nothing.
pub use Rattle.lucid_explain_source.specs.Names.{fits, heads, told_text}
pub use Rattle.lucid_explain_source.specs.Scopes.{lent}
pub use Rattle.lucid_tree.specs.declared.tree.Def.{Def}
pub use Rattle.std.proofs.Common.{Bool, Err, List, Ok, Result, [], ap, arith, codes, drop, false, get_or, inl, inr, length, length-drop, map, refl, replicate, subst, suc, sym, take, true, zero, ℕ, ◌*◌, ◌++◌, ◌+◌, ◌-◌, ◌<◌, ◌∙◌, ◌∷◌, ◌≡◌, ◌≤◌}
pub use Rattle.std.proofs.lemmas.Bool.{cases_lt}
pub use Rattle.std.proofs.lemmas.Grind.{common_steps}
pub use Rattle.std.proofs.lemmas.List.{append-nil, at_drop_more, get_or_past, length-map, take_all}
pub use Rattle.std.proofs.lemmas.List.Sums.{count_by_more_no, count_by_more_yes, suffix_len-take_yes}
pub use Rattle.std.proofs.lemmas.Result.{on_ok_weaker}
pub use Rattle.std.specs.Borrow.{Bor}
pub use Rattle.std.specs.Char.{is_ascii_digit}
pub use Rattle.std.specs.List.{flat_map, list_any, suffix_len}
pub use Rattle.std.specs.Prelude.{IfErr, IfOk, MatchOption, Option, find, if◌then◌else◌, nat_eq, ◌||◌}
pub use Rattle.std.specs.Result.{result_err}
