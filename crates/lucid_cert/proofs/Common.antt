-- What the proofs of this crate take of std, and what two of them or more cite of other modules, passed on from one place. Declares nothing.
pub use Rattle.lucid_cert.specs.Certified.{IsCertificate, Made}
pub use Rattle.lucid_cert.specs.Drawn.{AsDemanded, HasDrawn, root_task, view_of}
pub use Rattle.lucid_cert.specs.Makers.{AreFollowing, AreKeysOf, Each, FollowAmong, GivesBy, Goes, Grows, IsForming, IsJudgmentAt, IsMade, IsPassing, IsRoot, IsSoundMaker, IsSoundBy, IsWaiting, Leaves, MayJudge, RootStands, Settles, Spot, WaitsFor, Wants, WantsBy, judgments_of, spot_at, spot_by, spot_of, table_in}
pub use Rattle.lucid_cert.specs.Makings.{HasUse}
pub use Rattle.lucid_cert.specs.Reads.{HasRead, IsOwn, ReadsElement, ReadsFor, ReadsNext, element_read, nothing_read}
pub use Rattle.lucid_cert.specs.Traces.{Trace, gone}
pub use Rattle.lucid_cert.specs.Wanted.{AllMayWait, AreWanted, HasCome, IsWanted, MayWait, StaysWanted, gone_on, references_of, task_at}
pub use Rattle.lucid_cert.specs.declared.maker.Maker.{Maker}
pub use Rattle.lucid_cert.specs.declared.making.Making.{Making}
pub use Rattle.lucid_cert.specs.declared.making.Next.{Next}
pub use Rattle.lucid_cert.proofs.Drawing.{stream_there}
pub use Rattle.lucid_cert.specs.Checked.{MayBe}
pub use Rattle.lucid_cert.specs.Uses.{gives_only, plain_look, told}
pub use Rattle.lucid_demand_steps.specs.declared.fault.DemandFault.{DemandFault}
pub use Rattle.lucid_demand_steps.specs.declared.fault.DemandFault.TheVariants.{NoMemory, ReadFault, TooDeep}
pub use Rattle.lucid_equations.proofs.NumbersRead.{nodes-by-numbers}
pub use Rattle.lucid_equations.proofs.PartsRead.{row-node}
pub use Rattle.lucid_equations.specs.Nodes.{PlainNode, row}
pub use Rattle.lucid_equations.specs.Programs.{table_of}
pub use Rattle.lucid_equations.specs.Ranges.{EachBelow, IsInRange}
pub use Rattle.lucid_equations.specs.Rows.{equations_of, node_at, node_by, part_number, parts, row_at}
pub use Rattle.lucid_equations.specs.Values.{NodeMeans, node_val}
pub use Rattle.lucid_equations.specs.Visits.{node_visits}
pub use Rattle.lucid_equations.specs.declared.rows.Node.{Node}
pub use Rattle.lucid_equations.specs.declared.rows.Node.TheVariants.{Input}
pub use Rattle.lucid_equations.specs.declared.table.Table.{Table}
pub use Rattle.lucid_demand_steps.proofs.History.{extends_then}
pub use Rattle.lucid_demand_steps.proofs.Reading.{inputs_apart, read_more, streams_read}
pub use Rattle.lucid_demand_steps.specs.Engine.{AreAskable, ConsultsOverlong, places_of}
pub use Rattle.lucid_demand_steps.specs.Parts.{look_task, node_of}
pub use Rattle.lucid_demand_steps.specs.Stands.{task_val, task_visits, visits_of}
pub use Rattle.lucid_demand_steps.specs.Tasks.{PlainTask}
pub use Rattle.lucid_cert_rules.specs.Checking.{ArePlaces, AreTimes, IsOfContext, PassesOn, going, row_onward}
pub use Rattle.lucid_cert_rules.specs.Fed.{Uses, fed}
pub use Rattle.lucid_cert_rules.specs.Follows.{FollowsIn, Judged, Onward, context_in, contexts_behind, given, is_context, of_part}
unfoldable pub use Rattle.lucid_cert_rules.specs.Follows.{used}
pub use Rattle.lucid_cert_rules.specs.RestPlans.{AreFedAlike, CanGoOn, HasHead, IsForm, LooksInside, Stands, by_then, least_of, rest_plan}
pub use Rattle.lucid_cert_rules.specs.declared.passing.Position.{Position}
pub use Rattle.lucid_cert_rules.specs.declared.rest.Rest.{Rest}
pub use Rattle.lucid_inputs.specs.Inputs.{ReadsStream, stream_at, streams}
pub use Rattle.lucid_inputs.specs.Laws.{PlacesDiffer}
pub use Rattle.lucid_inputs.specs.declared.on_demand.Inputs.{Inputs}
pub use Rattle.lucid_lists.proofs.Lists.{slice_get-append_left, slice_get-push_same}
pub use Rattle.lucid_ports.specs.World.{World}
pub use Rattle.lucid_tags.specs.Contexts.{Context, context_at, root}
pub use Rattle.lucid_tags.specs.Keys.{same_key}
pub use Rattle.lucid_tags.specs.Known.{IsKnown, IsOneForOne, KeepsKnown, context_of, number_of, space_of, tag_of}
pub use Rattle.lucid_tags.specs.declared.Key.{Key}
pub use Rattle.lucid_tags.specs.declared.Tag.{Tag}
pub use Rattle.lucid_tree.specs.Levels.{Elements, goes_to, nowhere}
pub use Rattle.lucid_tree.specs.Members.{AllDiffer, In, Inside}
pub use Rattle.lucid_tree.specs.PlanLaws.{points_of}
pub use Rattle.lucid_tree.specs.Rests.{Reads}
pub use Rattle.lucid_tree.specs.Rows.{Plan, Reader, plan, run}
pub use Rattle.lucid_tree.specs.Tree.{Head}
pub use Rattle.lucid_value.specs.Plain.{PlainValue}
pub use Rattle.lucid_value.specs.View.{plain}
pub use Rattle.lucid_value.specs.declared.Value.{Value}
pub use Rattle.lucid_cert_rules.specs.Certificates.{PlainJudgment, plain_judgment}
pub use Rattle.lucid_cert_rules.specs.WhyText.{context_row}
pub use Rattle.lucid_cert_rules.specs.WhyTexts.{MayShow, MayShowJudgment}
pub use Rattle.lucid_cert_rules.specs.declared.rows.ContextRow.{ContextRow}
pub use Rattle.lucid_cert_rules.specs.declared.rows.Why.{Why}
pub use Rattle.std.proofs.Common.{Bool, List, None, Option, Some, [], ap, append_assoc, arith, cond, eq-eqb, false, get_or, inl, inr, length, length-append, map, max, refl, subst, suc, sym, take, true, true≢false, zero, ℕ, ◌&&◌, ◌++◌, ◌+◌, ◌-◌, ◌<◌, ◌==◌, ◌^◌, ◌||◌, ◌∙◌, ◌∷◌, ◌≡◌, ◌≤◌, ◌⊎◌}
pub use Rattle.std.proofs.lemmas.Bool.{cases_lt, le-leb, lt-ltb, ltb-true}
pub use Rattle.std.proofs.lemmas.Bool.Decides.{nat_tests}
pub use Rattle.std.proofs.lemmas.List.{append-nil, length-map, length-take, map-append, take-map}
pub use Rattle.std.proofs.lemmas.Option.{cond_some, none-some, option_and_then_some, same_Some, slice_get-get_or, slice_get_within}
pub use Rattle.std.specs.List.{AllByRecursion, filter_map, find, list_any}
pub use Rattle.std.specs.Option.{option_and_then}
pub use Rattle.std.specs.Prelude.{Err, IfErr, IfNone, IfSome, IsErrAnd, IsErrOf, IsTrue, Ok, OnOk, Result, if◌then◌else◌, nat_le, nat_lt, option_map, option_to_list, slice_get, ◌↔◌}
