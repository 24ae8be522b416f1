use Rattle.lucid_show_command.proofs.Common.{map, ap, sym, ◌∙◌, string_bytes, plain_words, err_from_is_err_and}
use Rattle.std.specs.Prelude.{option_and_then}
use Rattle.lucid_top.specs.declared.task.Task.TheVariants as task
use Rattle.lucid_top.proofs.Doing.{may_begin}
use Rattle.lucid_show_command.specs.Words.{for_certificate, is_why}
use Rattle.lucid_show_command.proofs.Asked.{for_other, for_why, why_is}
use Rattle.lucid_show_command.proofs.words.read_certificate.Goals as goal

pub returns-in_err-words-clause-asked : goal.returns-in_err-words-clause-asked
returns-in_err-words-clause-asked c =
    let p = err_from_is_err_and c.from_residual.result c.from_residual.ensures.1 in
    rw (p.1, p.2) (λ usage. ap (option_and_then for_certificate) (c.in_err-words.ensures.asked usage))

pub returns-then-not-is_why-clause-asked : goal.returns-then-not-is_why-clause-asked
returns-then-not-is_why-clause-asked c =
    let w = plain_words c.in_ok-words.words in
    λ usage. ap (option_and_then for_certificate) c.in_ok-words.ensures.asked
    ∙ for_other w (ap is_why (sym c.of.ensures) ∙ sym c.is_why.ensures ∙ c.if-not-is_why.true)

pub returns-clause-asked : goal.returns-clause-asked
returns-clause-asked c =
    let w = plain_words c.in_ok-words.words in
    ap (option_and_then for_certificate) c.in_ok-words.ensures.asked ∙ for_why w (ap is_why (sym c.of.ensures) ∙ sym c.is_why.ensures ∙ c.if-not-is_why.false)

pub returns-clause-begins : goal.returns-clause-begins
returns-clause-begins c =
    λ v none. may_begin (map (string_bytes {Z = Rattle.std.specs.Global.Global}) c.args.texts.now) c.in_ok-words.words task.Why v c.in_ok-words.ensures.asked
    c.in_ok-words.ensures.made c.in_ok-words.ensures.time
    (sym (sym c.of.ensures ∙ why_is c.of.result (sym c.is_why.ensures ∙ c.if-not-is_why.false))) none
