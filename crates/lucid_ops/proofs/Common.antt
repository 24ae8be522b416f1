-- What the proofs of this crate take of std, and what two of them or more cite of other modules, passed on from one place. Declares nothing.
pub use Rattle.lucid_ops.specs.Algebra.{by_rule, integer, is_eod, is_error, row_of, row_of_two, unless_zero}
pub use Rattle.lucid_ops.specs.Arity.{arity}
pub use Rattle.lucid_ops.specs.Rows.{has, rises}
pub use Rattle.lucid_ops.specs.declared.op.Op.{Op}
pub use Rattle.lucid_ops.specs.declared.op.Op.TheVariants.{Add, IsEod, IsError, Pow}
pub use Rattle.lucid_value.specs.Plain.{PlainValue, fault, int}
pub use Rattle.std.proofs.Common.{Bool, IsTrue, List, [], arith, cond, false, map, nat_eq, nat_lt, not, refl, rules, subst, suc, tests, true, zero, ℕ, ◌%◌, ◌*ℤ◌, ◌++◌, ◌+ℤ◌, ◌+◌, ◌-ℤ◌, ◌<◌, ◌==◌, ◌^◌, ◌∙◌, ◌∷◌, ◌≡◌, ◌≢◌, ◌≤ℤ◌, ◌≤◌}
pub use Rattle.std.proofs.Math.Nat.{pow-le-pow_left, pow-le-pow_right, pow-suc}
pub use Rattle.std.proofs.lemmas.Bool.{and_parts}
pub use Rattle.std.proofs.lemmas.Bool.Decides.{Decides-eqb, nat_tests}
pub use Rattle.std.proofs.lemmas.Fmt.{decimal_by_steps_wide, length-decimal-le_wide}
pub use Rattle.std.proofs.lemmas.Int.{ints}
pub use Rattle.std.proofs.lemmas.Iterator.{YieldsList-from_slice}
pub use Rattle.std.proofs.lemmas.Iterator.Search.{find_from_yields_List}
pub use Rattle.std.proofs.lemmas.List.Folds.{list_all-append}
pub use Rattle.std.proofs.lemmas.Slice.Eq.{slice_eq-Decides}
pub use Rattle.std.specs.Char.{is_ascii_alphabetic, is_ascii_alphanumeric}
pub use Rattle.std.specs.Cmp.Derive.{both_true}
pub use Rattle.std.specs.Fmt.{decimal, signed_decimal}
pub use Rattle.std.specs.Int.{CanDivide, int_pow, w128}
pub use Rattle.std.specs.List.{find, list_all, list_any}
pub use Rattle.std.specs.Option.{SomeIff, option_map, option_map_or}
pub use Rattle.std.specs.Prelude.{FitsSigned, None, Option, int_div, int_rem, neg_ℤ, negsuc, pos, unsigned_abs, ℤ}
