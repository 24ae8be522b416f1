use Rattle.lucid_words.proofs.Common.{Option, map, subst, sym, IfOk-weaker, string_bytes}
use Rattle.clap.specs.Words.{app_of}
use Rattle.lucid_words.specs.Plain.{Answers}
use Rattle.lucid_words.specs.Asked.{PlainWords, plain_words}
use Rattle.lucid_words.proofs.Asked.{asked_at_ok, asked_at_err}
use Rattle.lucid_words.proofs.Ranges.{numbers_in_range}
use Rattle.lucid_words.proofs.read_words.Goals as goal

-- each value passed its parser
pub words_of-requires : goal.words_of-requires
words_of-requires c =
    numbers_in_range c.in_ok-command.command c.in-Ok.matches c.in_ok-command.ensures c.in-Ok.ensures.parsed

pub returns-in-Ok-clause-asked : goal.returns-in-Ok-clause-asked
returns-in-Ok-clause-asked c =
    let asked = asked_at_ok (app_of c.in_ok-command.command) (map string_bytes c.args.words.now) c.in-Ok.matches c.in_ok-command.ensures c.in-Ok.ensures.kinds
    c.in-Ok.ensures.matches in
    subst (λ (o : Option PlainWords). Answers plain_words o c.words_of.result) (sym asked) c.words_of.ensures.asked

pub returns-in-Err-clause-asked : goal.returns-in-Err-clause-asked
returns-in-Err-clause-asked c =
    λ usage. asked_at_err (app_of c.in_ok-command.command) (map string_bytes c.args.words.now) c.in-Err.error c.in_ok-command.ensures c.in-Err.ensures.kinds
    (c.refusal_of.ensures usage)

-- the options have their ranges
pub returns-in-Ok-clause-count : goal.returns-in-Ok-clause-count
returns-in-Ok-clause-count c =
    IfOk-weaker c.words_of.result _ _ (λ words age. (words.options.some_lines, words.options.count_within)) c.words_of.ensures.age

pub returns-in-Ok-clause-depth : goal.returns-in-Ok-clause-depth
returns-in-Ok-clause-depth c =
    IfOk-weaker c.words_of.result _ _ (λ words age. (words.options.some_depth, words.options.depth_within)) c.words_of.ensures.age
