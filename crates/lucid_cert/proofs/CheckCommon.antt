-- What the proofs of the check take of std, and what two of them or more cite of other modules, passed on from one place. Declares nothing.
pub use Rattle.lucid_cert.specs.Checked.{Checked, MayBe}
pub use Rattle.lucid_cert.specs.Checks.{IsSameCheck, IsSoundCheck, contexts_in, judgments_of}
pub use Rattle.lucid_cert.specs.CheckReads.{DrawsFor, LiesWithin, ReadsFor, TellsElement, element_read, nothing_read}
pub use Rattle.lucid_cert.specs.Uses.{told}
pub use Rattle.lucid_cert.specs.declared.check.Check.{Check}
pub use Rattle.lucid_cert.specs.declared.fault.CheckFault.{CheckFault}
pub use Rattle.lucid_cert.specs.declared.fault.CheckFault.TheVariants.{NoMemory, Wrong}
pub use Rattle.lucid_equations.specs.MoreElements.{Extends}
pub use Rattle.lucid_equations.specs.Programs.{table_of}
pub use Rattle.lucid_equations.specs.Rows.{row_at}
pub use Rattle.lucid_equations.specs.declared.rows.Node.{Node}
pub use Rattle.lucid_equations.specs.declared.rows.Node.TheVariants.{Input}
pub use Rattle.lucid_equations.specs.declared.table.Table.{Table}
pub use Rattle.lucid_demand_steps.proofs.History.{extends_then}
pub use Rattle.lucid_demand_steps.proofs.Reading.{read_more, streams_read}
pub use Rattle.lucid_demand_steps.specs.Elements.{elements_read}
pub use Rattle.lucid_demand_steps.specs.Engine.{AreAskable, places_of}
pub use Rattle.lucid_cert_rules.proofs.ContextTags.{context_there, is_of_context}
pub use Rattle.lucid_cert_rules.specs.Checking.{contexts_of, row_onward}
pub use Rattle.lucid_cert_rules.specs.Fed.{Uses, fed}
unfoldable pub use Rattle.lucid_cert_rules.specs.Follows.{contexts, used}
pub use Rattle.lucid_cert_rules.specs.Follows.{FollowsIn, IsOfRoot, by_onward, of_part}
pub use Rattle.lucid_cert_rules.specs.RestPlans.{HasHead}
pub use Rattle.lucid_cert_rules.specs.declared.rest.Rest.{Rest}
pub use Rattle.lucid_inputs.specs.Inputs.{most_bytes, stream_at, streams}
pub use Rattle.lucid_inputs.specs.declared.on_demand.Inputs.{Inputs}
pub use Rattle.lucid_ports.specs.World.{World}
pub use Rattle.lucid_tags.specs.Contexts.{Context, root}
pub use Rattle.lucid_tags.specs.EqualityDecides.{same_tag_is_equality}
pub use Rattle.lucid_tags.specs.Known.{context_of}
pub use Rattle.lucid_tags.specs.declared.Tag.{Tag}
pub use Rattle.lucid_tree.specs.Levels.{Elements}
pub use Rattle.lucid_tree.specs.Members.{AllDiffer}
pub use Rattle.lucid_tree.specs.Rows.{plan}
pub use Rattle.lucid_tree.specs.Tree.{Head}
pub use Rattle.lucid_value.specs.Plain.{PlainValue}
pub use Rattle.lucid_value.specs.View.{plain}
pub use Rattle.lucid_value.specs.declared.Value.{Value}
pub use Rattle.lucid_cert_rules.specs.Certificates.{PlainJudgment, plain_judgment}
pub use Rattle.lucid_cert_rules.specs.declared.rows.JudgmentRow.{JudgmentRow}
pub use Rattle.lucid_cert_rules.specs.declared.rows.Why.{Why}
pub use Rattle.std.proofs.Common.{List, None, Option, Some, [], add-one, ap, arith, cond, drop, eq-eqb, false, get_or, inl, inr, length, length-drop, map, max, refl, subst, suc, sym, take, true, zero, ℕ, ◌&&◌, ◌++◌, ◌+◌, ◌-◌, ◌<◌, ◌^◌, ◌↔◌, ◌∙◌, ◌∷◌, ◌≡◌, ◌≢◌, ◌≤◌, ◌⊎◌}
pub use Rattle.std.proofs.Math.Seq.{drop-cons, drop-length, take-length, take-suc}
pub use Rattle.std.proofs.lemmas.Bool.{cases_eq, cases_lt, eqb-true, le-ltb, lt-ltb, ltb-true}
pub use Rattle.std.proofs.lemmas.Bool.Decides.{Decides-and, Decides-eqb}
pub use Rattle.std.proofs.lemmas.List.{length-map, map-append}
pub use Rattle.std.proofs.lemmas.Option.{cond_some, none-some, option_and_then_some, same_Some, slice_get-get_or, unwrap_or-slice_get}
pub use Rattle.std.specs.Bool.{Decides}
pub use Rattle.std.specs.Borrow.{Bor}
pub use Rattle.std.specs.List.{AllByRecursion}
pub use Rattle.std.specs.Prelude.{Err, IfErr, IfOk, IfSome, IsErrAnd, Ok, Result, nat_lt, option_map, slice_get, ◌==◌}
