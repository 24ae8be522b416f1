use Rattle.lucid_words.proofs.Common.{rules}
use Rattle.lucid_words.proofs.command.with_positionals.Goals as goal

-- each argument in turn
pub returns : goal.returns
returns c = λ app was.
    let after1 = c.with-command.ensures _ c.new.ensures.rule _ was in
    c.with.ensures _ (search rules) _ after1
