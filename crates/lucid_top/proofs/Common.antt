-- What the proofs of this crate take of std, and what two of them or more cite of other modules, passed on from one place. Declares nothing.
pub use Rattle.lucid_columns.specs.Columns.{AreColumns, IsFirstMissing}
pub use Rattle.lucid_compile.specs.Promise.{KeepsTree}
pub use Rattle.lucid_cycles.specs.Judged.{IsJudged}
pub use Rattle.lucid_cycles.specs.Judgments.{IsJudgeRefusal}
pub use Rattle.lucid_cycles.specs.declared.judgment.JudgeRefusal.{JudgeRefusal}
pub use Rattle.lucid_equations.specs.Programs.{table_of}
pub use Rattle.lucid_equations.specs.Rows.{equations_of}
pub use Rattle.lucid_equations.specs.Sound.{IsSound}
pub use Rattle.lucid_equations.specs.declared.table.Table.{Table}
pub use Rattle.lucid_flat.specs.FlatTables.{IsFirstWrongLine, IsTextOf}
pub use Rattle.lucid_inputs.specs.Streams.{all_bytes}
pub use Rattle.lucid_fixed_point.specs.Rules.{Derives}
pub use Rattle.lucid_parse.specs.Grammar.{PlacedTerminal, Spells, SpellsDefs}
pub use Rattle.lucid_parse.specs.Terminals.{Terminals}
pub use Rattle.lucid_parse.specs.declared.refusal.ParseRefusal.{ParseRefusal}
pub use Rattle.lucid_ports.proofs.FaultLemmas.{rises_from}
pub use Rattle.lucid_ports.specs.Faults.{CountsNoFaultUnless, Rises}
pub use Rattle.lucid_ports.specs.World.{Contents, IsFresh, World}
pub use Rattle.lucid_ports.specs.Writing.{with_all}
pub use Rattle.lucid_ports.specs.declared.fault.PortFault.TheVariants.{Failed}
pub use Rattle.lucid_ports.specs.declared.run.RunFault.{RunFault}
pub use Rattle.lucid_ports.specs.declared.run.Summary.{Summary}
pub use Rattle.lucid_print.specs.Canonical.{canonical}
pub use Rattle.lucid_scan.specs.Laws.{TextsAreLongest}
pub use Rattle.lucid_scan.specs.Refusals.{most_source_bytes}
pub use Rattle.lucid_scan.specs.declared.refusal.ScanRefusal.{ScanRefusal}
pub use Rattle.lucid_scan.specs.declared.token.Token.{Token}
pub use Rattle.lucid_scope.specs.Bindings.{HasNoFault, all_sites}
pub use Rattle.lucid_scope.specs.Scoped.{scoped_binding, scoped_inputs, scoped_tree}
pub use Rattle.lucid_scope.specs.declared.scoped.Scoped.{Scoped}
pub use Rattle.lucid_session.specs.Figures.{Figures}
pub use Rattle.lucid_session.specs.Runs.{HasElements, IsDone, IsTooDeep, OnTooLarge, Ran, RunView}
pub use Rattle.lucid_ports.specs.Told.{Told, told}
pub use Rattle.lucid_session.specs.Subject.{Subject, stream_subject, tree_stream}
pub use Rattle.lucid_flat.specs.WrongRows.{IsFirstWrongRow}
pub use Rattle.lucid_flat.specs.declared.program.BuildRefusal.{BuildRefusal}
pub use Rattle.lucid_cert_rules.specs.Follows.{AllFollow, IsRight, contexts}
pub use Rattle.lucid_top.specs.Call.{Call}
pub use Rattle.lucid_top.specs.Certificates.{HeldCertificate, HoldsCertificate, RefusesCertificate, by_judgment, by_size, most_certificate_bytes}
pub use Rattle.lucid_top.specs.Checks.{CheckComesOnly, Checks, ChecksTree, ConsumesFor, EndsSo, IsCheckStop, IsLast, IsLastLine, IsProvedLine, IsStopped, LiesPast, NoneTellsPast, Proves, TellsPast, looked_at}
pub use Rattle.lucid_top.specs.Clauses.{ComesOnly, ConsumesNothing, EndsCheck, EndsMaking, MeetsClauses, MeetsOutcome, ReadFails, TellsFiles, WritesNothing, before_checking, before_making, by_checking, by_making}
pub use Rattle.lucid_top.specs.Coming.{Comes, IsMade, IsOfMade, MayBegin, ProvesTable, Rests, RunsTable, reaches_certificate, reaches_checked, reaches_inputs, reaches_made, reaches_nothing, reaches_source}
pub use Rattle.lucid_top.specs.Files.{AreRightBelow, FitsGiven, Given, RefusedFirst, RefusesGiven, by_two, by_word, file_given, files_for, refusal_at, word_refusal}
pub use Rattle.lucid_top.specs.Flat.{HasTable, RefusesFlat, SpellsTable, by_length, by_line, by_row, most_flat_bytes}
pub use Rattle.lucid_top.specs.Headline.{Headline, Lines, RunsProgram, elements, one_line_more}
pub use Rattle.lucid_top.specs.Judged.{HasInputs, HasTokens, RefusesBeside, RefusesJudging, RefusesNames, RefusesText, Spelt, StandsBeside, by_parse, by_scan}
pub use Rattle.lucid_top.specs.Laws.{CertificateIsNotRefused, OneCertificate, OneCertificateRefusal, OneFlatRefusal, OneFlatTable, OneListOfInputs, OneNameRefusal, OneTextRefusal, TableIsNotRefused}
pub use Rattle.lucid_report.specs.Lines.{line_of}
pub use Rattle.lucid_top.specs.Makes.{ForSomeAdded, IsMakingStop, IsNotMade, Makes, MakesTree, MakingComesOnly}
pub use Rattle.lucid_top.specs.Places.{AreFresh, AreKept, AreUnread, FlatBySource, HasReached, IsAcceptedBeside, IsColumnsStop, IsProgramStop, IsReadStop, IsSourceStop, KeepsNames, ReadsCertificate, ReadsPlace, ReadsSource, SpeltBySource, most_read}
pub use Rattle.lucid_top.specs.Programs.{Program, beside, of_columns, of_table, of_tree, program_counted, program_subject}
pub use Rattle.lucid_report.specs.Refusals.{IsRefusalOf, build_stop, judge_stop, parse_stop, scan_stop}
pub use Rattle.lucid_top.specs.Running.{IsRunStop, RunComesOnly}
pub use Rattle.lucid_top.specs.Runs.{RanSo, Run, certificate_of, certificate_places, first_input, most_input_bytes, run_of, run_places, run_result, table_program, unread_place, view_of, viewed}
pub use Rattle.lucid_top.specs.Sources.{IsSource, IsTold, first_place}
pub use Rattle.lucid_top.specs.Stages.{Asks, HasColumns, HasFiles, HasFlat, HasNames, HasTree, IsAskedFor, IsCheck, IsForCertificate, IsMaking, IsRun, IsTextFor, IsWriting, MayCheck, WantsInputs, asks_for, by_certificate, by_columns, by_flat, by_given, by_judging, by_missing, by_names, by_table, by_text, by_tree, by_words, certificate_file, flattens, inputs_in, judges, prints, program_in}
pub use Rattle.lucid_report.specs.Status.{Outcome}
pub use Rattle.lucid_top.specs.Tasks.{form_of, is_certificate, task_of, time_asked}
pub use Rattle.lucid_report.specs.Telling.{WritesFront, WritesWhole}
pub use Rattle.lucid_top.specs.Texts.{IsFlatForm}
pub use Rattle.lucid_top.specs.Witness.{counting_source}
pub use Rattle.lucid_top.specs.Writing.{WritesOnly}
pub use Rattle.lucid_cert_rules.specs.declared.rows.Why.{Why}
pub use Rattle.lucid_report.specs.declared.refusal.Refusal.{Refusal}
pub use Rattle.lucid_report.specs.declared.status.Status.{Status}
pub use Rattle.lucid_report.specs.declared.stop.Stop.{Stop}
pub use Rattle.lucid_top.specs.declared.task.Form.{Form}
pub use Rattle.lucid_top.specs.declared.task.Task.{Task}
pub use Rattle.lucid_tree.specs.Env.{empty, same_name}
pub use Rattle.lucid_tree.specs.Levels.{Elements}
pub use Rattle.lucid_tree.specs.Members.{In}
pub use Rattle.lucid_tree.specs.Output.{line}
pub use Rattle.lucid_tree.specs.SamplePrograms.{counting, number}
pub use Rattle.lucid_tree.specs.Tree.{PlainDefs, PlainTree, defines, name, no_defs}
pub use Rattle.lucid_tree.specs.WellMade.{IsWellMade, places, places_in_defs}
pub use Rattle.lucid_value.specs.Laws.{TextIsRead}
pub use Rattle.lucid_value.specs.Lines.{IsOverlong}
pub use Rattle.lucid_value.specs.Plain.{PlainValue, eod}
unfoldable pub use Rattle.lucid_words.specs.Asked.{words_asked}
pub use Rattle.lucid_words.specs.Asked.{PlainWords, plain_words}
pub use Rattle.lucid_words.specs.Plain.{PlainSource, file, made, plain_given, plain_source}
pub use Rattle.std.proofs.Common.{Bool, Err, List, None, Ok, Option, Some, [], add-one, ap, append_assoc, arith, below_more, drop, false, fold, get_or, inl, inr, length, map, nat_lt, refl, subst, suc, sum_by, sym, true, true≢false, zero, ℕ, ◌++◌, ◌+◌, ◌-◌, ◌<◌, ◌||◌, ◌∙◌, ◌∷◌, ◌≡◌, ◌≢◌, ◌≤◌, ◌⊎◌}
pub use Rattle.std.proofs.Math.ListN.{drop_of_length-le}
pub use Rattle.std.proofs.Math.Logic.{∥∥₁_elim, ∥∥₁_map}
pub use Rattle.std.proofs.Math.Nat.{le_refl, ℕ_set}
pub use Rattle.std.proofs.Math.Seq.{drop-append_seam, drop-cons}
pub use Rattle.std.proofs.lemmas.Bool.{cases_lt, cases_order, lt-ltb, ltb-true}
pub use Rattle.std.proofs.lemmas.List.{length-drop, length-map, length-take-le, take-append-drop, take-append-le, take-map, take_all, take_more}
pub use Rattle.std.proofs.lemmas.List.Elements.{All-cons, All-contains, All-nil}
pub use Rattle.std.proofs.lemmas.List.FromFn.{get_or-range_with_len, length-range_with_len}
pub use Rattle.std.proofs.lemmas.List.Sorted.{sum_by-IsPermutation}
pub use Rattle.std.proofs.lemmas.List.Sums.{sum_by-append, sum_by-cons}
pub use Rattle.std.proofs.lemmas.Option.{get_or_from_slice_get, slice_get-get_or, slice_get-map, slice_get_within, unwrap_or-slice_get}
pub use Rattle.std.proofs.lemmas.Result.{IfErr-weaker, IfOk-weaker, err_from_is_err_and}
pub use Rattle.std.specs.Coded.{le_prop}
unfoldable pub use Rattle.std.specs.Fmt.{digits}
pub use Rattle.std.specs.List.{Contains, list_all, list_any, range_with_len, slice_split}
pub use Rattle.std.specs.List.Sorted.{IsNonDecreasingBy}
pub use Rattle.std.specs.Prelude.{All, AllPairs, IfErr, IfOk, IfSome, IsErrAnd, IsErrOf, IsSome, IsSomeAnd, IsTrue, MatchResult, OnErr, OnOk, codes, decimal, is_some, not, option_and_then, option_map, pos, slice_get, slice_range, unwrap_or}
pub use Rattle.std.specs.String.{string_bytes}
