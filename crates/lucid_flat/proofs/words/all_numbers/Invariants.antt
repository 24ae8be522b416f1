use Rattle.lucid_flat.proofs.Common.{◌≡◌, ◌<◌, ◌^◌, length, numbers_of, option_copied}
use Rattle.lucid_texts.specs.Words.{words_left}
use Rattle.lucid_flat.proofs.NumberLemmas.{with_front}
use Rattle.lucid_flat.proofs.words.all_numbers.Given as goal

abbrev pub invariant-loop-rest : goal.invariant-loop-rest
invariant-loop-rest l = record {
  read : numbers_of (2 ^ 32) (words_left (option_copied l.fn.words)) ≡ with_front l.numbers.items (numbers_of (2 ^ 32) (words_left (option_copied l.rest)));
  few : length l.numbers.items < 2 ^ 32;
}

abbrev pub decreases-loop-rest : goal.decreases-loop-rest
decreases-loop-rest l = length (words_left (option_copied l.rest))
