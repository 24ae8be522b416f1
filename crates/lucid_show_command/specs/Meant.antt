-- What is shown is meant.
use Rattle.std.specs.Prelude.{◌≡◌, ℕ, List, Some, Ok, slice_get}
use Rattle.lucid_tree.specs.Tree.{PlainTree}
use Rattle.lucid_tree.specs.Env.{Env}
use Rattle.lucid_tree.specs.Levels.{Elements}
use Rattle.lucid_tree.specs.Meaning.{val}
use Rattle.lucid_tags.specs.Contexts.{Context}
use Rattle.lucid_compile.specs.Meant.{Matches}
use Rattle.lucid_compile.specs.Notes.{Note, noted_tree}
use Rattle.lucid_compile.specs.Settled.{pieces, table_of}
use Rattle.lucid_cert_rules.specs.Certificates.{PlainJudgment}
use Rattle.lucid_cert_rules.specs.Follows.{context_in, contexts}
use Rattle.lucid_cert_rules.specs.WhyTexts.{IsTextOf}
use Rattle.lucid_cert_rules.specs.declared.rows.Why.{Why}
use Rattle.lucid_ports.specs.World.{World}
use Rattle.lucid_words.specs.Asked.{PlainWords}
use Rattle.lucid_session.specs.Runs.{HasElements, PolicyView}
use Rattle.lucid_session.specs.Subject.{tree_stream}
use Rattle.lucid_report.specs.declared.stop.Done.{Done}
use Rattle.lucid_top.specs.declared.task.Task.TheVariants.{Why as WhyTask}
use Rattle.lucid_top.specs.Coming.{Does}
use Rattle.lucid_top.specs.Makes.{IsWhy}
use Rattle.lucid_top.specs.Runs.{certificate_of, view_of}
use Rattle.lucid_top.specs.Stages.{IsMaking}
use Rattle.lucid_top.specs.Tasks.{task_of, time_asked}
use Rattle.lucid_show_command.specs.Shows.{call_in_memory}

-- A judgment in a context is meant: in the environment that the context matches, some approximation of the piece of its node has its value there.
abbrev pub IsMeant : PlainTree → Elements → PlainJudgment → Context → Type 0
IsMeant e b j c =
    (n : Note) → slice_get (pieces e) j.node ≡ Some n → (env : Env) → Matches e n env c
    → (limit : ℕ) × (val b limit (noted_tree n.kind) env j.time j.space ≡ Some j.value)

-- A certificate of the program's value at the time, each of whose judgments is meant.
pub record IsMeantWhy (e : PlainTree) (names : List (List ℕ)) (b : Elements) (time : ℕ) (w : Why) : Type 0 where
  pub proves : IsWhy (table_of e names) (tree_stream e) b time w
  pub each : (i : ℕ) (j : PlainJudgment) (c : Context) → slice_get w.judgments i ≡ Some j → context_in (contexts (table_of e names) w) j.context ≡ Some c
      → IsMeant e b j c

-- Where words ask `lucid` for a certificate, and it wrote one into memory, it made one of the program; and by the elements that the inputs' files
-- have, the certificate with this text is one of the program's value at the time that is asked for, and each of its judgments is meant.
abbrev pub WhatIsShownIsMeant : Type 0
WhatIsShownIsMeant =
    (policy : PolicyView) (words : PlainWords) (before after : World) (bytes : List ℕ) (faults late : ℕ) (done : Done)
    → task_of words ≡ WhyTask → Does (call_in_memory policy words before after bytes faults late) (Ok done)
    → (m : IsMaking (call_in_memory policy words before after bytes faults late))
    × ((b : Elements) → HasElements (view_of (call_in_memory policy words before after bytes faults late) (certificate_of m)) b
    → (w : Why) → IsTextOf bytes w → IsMeantWhy m.names.program.tree m.names.free b (time_asked words) w)
