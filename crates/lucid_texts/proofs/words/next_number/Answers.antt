use Rattle.lucid_texts.proofs.Common.{sym}
use Rattle.lucid_texts.proofs.WordLemmas.{number_of_some}
use Rattle.lucid_texts.proofs.words.next_number.Goals as goal

pub returns-clause-below : goal.returns-clause-below
returns-clause-below c = (number_of_some c.args.bound _ c.in_ok-n.n (sym c.in_ok-n.ensures)).1
