-- What is shown is meant.
use Rattle.std.proofs.Common.{◌≡◌, ℕ, ◌+◌, List, length, Ok, inl, inr, sym, ap, subst, ◌∙◌}
use Rattle.std.proofs.lemmas.Option.{same_Some, slice_get_within}
use Rattle.lucid_tree.specs.Tree.{PlainTree}
use Rattle.lucid_tree.specs.Levels.{Elements}
use Rattle.lucid_compile.specs.Settled.{table_of}
use Rattle.lucid_cert_rules.specs.Laws.{OneWhy}
use Rattle.lucid_cert_rules.specs.Meant.{WhatFollowsIsMeant}
use Rattle.lucid_cert_rules.specs.WhyTexts.{IsTextOf}
use Rattle.lucid_cert_rules.specs.declared.rows.Why.{Why}
use Rattle.lucid_cert.proofs.MeantSoFar.{most_of, within_most}
use Rattle.lucid_flat.proofs.InRange.{sound-in_range}
use Rattle.lucid_ports.specs.World.{World}
use Rattle.lucid_words.specs.Asked.{PlainWords}
use Rattle.lucid_session.specs.Runs.{HasElements, PolicyView}
use Rattle.lucid_session.specs.Subject.{tree_stream}
use Rattle.lucid_report.specs.declared.stop.Done.{Done}
use Rattle.lucid_report.specs.declared.stop.Done.TheVariants as done
use Rattle.lucid_top.specs.declared.task.Task.TheVariants as task
use Rattle.lucid_top.specs.Call.{Call}
use Rattle.lucid_top.specs.Coming.{Does}
use Rattle.lucid_top.specs.Makes.{IsWhy, MakesTree}
use Rattle.lucid_top.specs.Runs.{certificate_of, view_of}
use Rattle.lucid_top.specs.Stages.{Asks, HasProgram, IsMaking, IsWriting, by_columns, by_table, by_tree, flattens, judges, prints, asks_for, task_for}
use Rattle.lucid_top.specs.Tables.{HasSoundTable}
use Rattle.lucid_top.specs.Tasks.{task_of, time_asked}
use Rattle.lucid_show_command.specs.Meant.{IsMeantWhy, WhatIsShownIsMeant}
use Rattle.lucid_show_command.specs.Shows.{call_in_memory}

-- a certificate that proves its value is meant
judged : WhatFollowsIsMeant → (e : PlainTree) (names : List (List ℕ)) → HasSoundTable e names → (b : Elements) (time : ℕ) (w : Why)
    → IsWhy (table_of e names) (tree_stream e) b time w → IsMeantWhy e names b time w
judged meant e names sound b time w is = record {
  proves = is;
  each = λ i j c at known n there env matches. (
    i + 1 + most_of w.judgments,
    sym ((sound.means j.node n there env c matches).0 b (i + 1 + most_of w.judgments) j.time j.space)
        ∙ meant (table_of e names) (sound-in_range (table_of e names) sound.sound) b w (length w.judgments) (most_of w.judgments) is.proves.right.all (λ k x l y. within_most w.judgments k x y) i j c
        (slice_get_within w.judgments i j at) at known,
  );
}

module _ (meant : WhatFollowsIsMeant) (one : OneWhy) (policy : PolicyView) (words : PlainWords) (before after : World) (bytes : List ℕ) (faults late : ℕ)
    (asks_why : task_of words ≡ task.Why) where
  abbrev c : Call
  c = call_in_memory policy words before after bytes faults late

  same_words : (a : Asks c) → a.words ≡ words
  same_words a = sym (same_Some words a.words a.read)

  its_task : (a : Asks c) → task_of a.words ≡ task.Why
  its_task a = ap task_of (same_words a) ∙ asks_why

  no_run : (p : HasProgram c) → task_of (asks_for p).words ≡ task_for p → ⊥
  no_run (by_tree n) is = absurd (cc (is, its_task n.program.source.asks))
  no_run (by_columns h) is = absurd (cc (is, its_task h.names.program.source.asks))
  no_run (by_table f) is = absurd (cc (is, its_task f.source.asks))

  no_text : IsWriting c → ⊥
  no_text (prints t is) = absurd (cc (is, its_task t.source.asks))
  no_text (judges n is judged) = absurd (cc (is, its_task n.program.source.asks))
  no_text (flattens n is) = absurd (cc (is, its_task n.program.source.asks))

  -- the text that is written is the bytes
  of_text : (m : IsMaking c) (d : Done) → MakesTree m.names.program.tree (view_of c (certificate_of m)) (time_asked (certificate_of m).words) (Ok d)
      → (b : Elements) → HasElements (view_of c (certificate_of m)) b → (w : Why) → IsTextOf bytes w
      → IsWhy (table_of m.names.program.tree m.names.free) (tree_stream m.names.program.tree) b (time_asked (certificate_of m).words) w
  of_text m (done.Ran summary stats) makes b has w text = absurd (makes.1.ends b has)
  of_text m done.Written makes b has w text =
      let wrote = makes.1.ends b has in
      let same : bytes ≡ wrote.0 = same_Some bytes wrote.0 wrote.2 in
      let theirs : IsTextOf bytes wrote.1.0 = subst (λ bs. IsTextOf bs wrote.1.0) (sym same) wrote.1.2 in
      subst (IsWhy (table_of m.names.program.tree m.names.free) (tree_stream m.names.program.tree) b (time_asked (certificate_of m).words))
      (one bytes wrote.1.0 w theirs text) wrote.1.1

  shown_meant : (d : Done) → Does c (Ok d)
      → (m : IsMaking c) × ((b : Elements) → HasElements (view_of c (certificate_of m)) b → (w : Why) → IsTextOf bytes w
      → IsMeantWhy m.names.program.tree m.names.free b (time_asked words) w)
  shown_meant d does = elim does.comes.how [
    | inl early ↦ absurd early.0
    | inr how ↦ elim how [
      | inl run ↦ absurd (no_run run.0.program run.0.task)
      | inr how ↦ elim how [
        | inl text ↦ absurd (no_text text.0)
        | inr how ↦ elim how [
          | inl checked ↦ absurd (cc (checked.0.may.task, its_task checked.0.may.names.program.source.asks))
          | inr made ↦ (
            made.0,
            λ b has w text.
                judged meant made.0.names.program.tree made.0.names.free made.2.0 b (time_asked words) w
                (subst (λ (v : PlainWords). IsWhy (table_of made.0.names.program.tree made.0.names.free) (tree_stream made.0.names.program.tree) b (time_asked v) w)
                (same_words made.0.names.program.source.asks) (of_text made.0 d made.2 b has w text)),
          )
        ]
      ]
    ]
  ]

pub what_is_shown_is_meant : WhatFollowsIsMeant → OneWhy → WhatIsShownIsMeant
what_is_shown_is_meant meant one policy words before after bytes faults late d asks_why does =
    shown_meant meant one policy words before after bytes faults late asks_why d does
