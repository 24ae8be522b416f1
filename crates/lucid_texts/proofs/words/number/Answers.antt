use Rattle.lucid_texts.proofs.Common.{sym, arith}
use Rattle.lucid_texts.proofs.WordLemmas.{number_of_none, utf8-decimal}
use Rattle.lucid_texts.proofs.words.number.Goals as goal

pub returns-in-Err : goal.returns-in-Err
returns-in-Err c = sym (number_of_none c.args.bound _ (λ n h e. c.in-Err.ensures.cases.0 (utf8-decimal _ n (omega (arith, h)) e)))
