use Rattle.lucid_texts.proofs.Common.{ap, sym}
use Rattle.lucid_texts.specs.Words.{take_word}
use Rattle.lucid_texts.proofs.WordLemmas.{words_of_one, words_of_more}
use Rattle.lucid_texts.proofs.words.next_word.Goals as goal

pub returns-in-Some : goal.returns-in-Some
returns-in-Some c = let e = words_of_more _ _ _ c.in-Some.ensures.0 c.in-Some.ensures.1 in let s = c.in_ok-bytes.was in rw s (ap take_word (sym e))

pub returns-in-None : goal.returns-in-None
returns-in-None c = let e = words_of_one _ c.in-None.ensures in let s = c.in_ok-bytes.was in rw s (ap take_word (sym e))
