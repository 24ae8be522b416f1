use Rattle.lucid_show_command.proofs.Common.{◌∙◌, subst, sym}
use Rattle.std.specs.Prelude.{Bool, if◌then◌else◌}
use Rattle.clap.specs.Words.{found_of, rows_of}
use Rattle.lucid_words.specs.Plain.{Answers}
use Rattle.lucid_show_command.specs.Words.{plain_asked, steps_shown, value_shown}
use Rattle.lucid_show_command.proofs.words.asked_in.Goals as goal

pub returns-then-is_set-clause-asked : goal.returns-then-is_set-clause-asked
returns-then-is_set-clause-asked c =
    let rows = rows_of (found_of c.args.matches.now) in
    subst (λ (b : Bool). Answers plain_asked (if b then steps_shown rows else value_shown rows) c.steps_in.result) (sym (sym c.is_set.ensures ∙ c.if-is_set.true)) c.steps_in.ensures.asked

pub returns-else-is_set-clause-asked : goal.returns-else-is_set-clause-asked
returns-else-is_set-clause-asked c =
    let rows = rows_of (found_of c.args.matches.now) in
    subst (λ (b : Bool). Answers plain_asked (if b then steps_shown rows else value_shown rows) c.value_in.result) (sym (sym c.is_set.ensures ∙ c.if-is_set.false)) c.value_in.ensures.asked
