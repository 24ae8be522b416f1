use Rattle.lucid_show_command.proofs.Common.{Option, map, subst, sym, string_bytes}
use Rattle.clap.specs.Words.{app_of}
use Rattle.lucid_words.specs.Plain.{Answers}
use Rattle.lucid_show_command.specs.Words.{PlainAsked, plain_asked}
use Rattle.lucid_show_command.proofs.Asked.{asked_at_ok, asked_at_err}
use Rattle.lucid_show_command.proofs.words.read_asked.Goals as goal

pub returns-in-Ok-clause-asked : goal.returns-in-Ok-clause-asked
returns-in-Ok-clause-asked c =
    let asked = asked_at_ok (app_of c.in_ok-command.command) (map string_bytes c.args.words.now) c.in-Ok.matches c.in_ok-command.ensures c.in-Ok.ensures.kinds
    c.in-Ok.ensures.matches in
    subst (λ (o : Option PlainAsked). Answers plain_asked o c.asked_in.result) (sym asked) c.asked_in.ensures.asked

pub returns-in-Err-clause-asked : goal.returns-in-Err-clause-asked
returns-in-Err-clause-asked c =
    λ usage. asked_at_err (app_of c.in_ok-command.command) (map string_bytes c.args.words.now) c.in-Err.error c.in_ok-command.ensures c.in-Err.ensures.kinds
    (c.refusal_of.ensures usage)
