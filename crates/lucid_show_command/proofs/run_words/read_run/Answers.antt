use Rattle.lucid_show_command.proofs.Common.{ap, sym, ◌∙◌, plain_words, err_from_is_err_and}
use Rattle.std.specs.Prelude.{option_and_then}
use Rattle.lucid_show_command.specs.Words.{for_run, is_run}
use Rattle.lucid_show_command.proofs.Asked.{for_a_run, for_no_run}
use Rattle.lucid_show_command.proofs.run_words.read_run.Goals as goal

pub returns-in_err-words : goal.returns-in_err-words
returns-in_err-words c =
    let p = err_from_is_err_and c.from_residual.result c.from_residual.ensures.1 in
    rw (p.1, p.2) (λ usage. ap (option_and_then for_run) (c.in_err-words.ensures.asked usage))

pub returns-then-not-is_run : goal.returns-then-not-is_run
returns-then-not-is_run c =
    let w = plain_words c.in_ok-words.words in
    λ usage. ap (option_and_then for_run) c.in_ok-words.ensures.asked ∙ for_no_run w (ap is_run (sym c.of.ensures) ∙ sym c.is_run.ensures ∙ c.if-not-is_run.true)

pub returns : goal.returns
returns c =
    let w = plain_words c.in_ok-words.words in
    ap (option_and_then for_run) c.in_ok-words.ensures.asked ∙ for_a_run w (ap is_run (sym c.of.ensures) ∙ sym c.is_run.ensures ∙ c.if-not-is_run.false)
