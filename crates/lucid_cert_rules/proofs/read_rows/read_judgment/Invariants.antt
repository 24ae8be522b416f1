use Rattle.lucid_cert_rules.proofs.Common.{◌≡◌, ◌-◌, ◌≤◌, length, option_copied, words_left, take_uses}
use Rattle.lucid_cert_rules.proofs.RowsTaken.{with_front}
use Rattle.lucid_cert_rules.proofs.read_rows.read_judgment.Given as goal

abbrev pub invariant-loop-rest : goal.invariant-loop-rest
invariant-loop-rest l = record {
  read : take_uses l.front.count (words_left (option_copied l.initial.rest)) ≡ with_front l.uses.items
      (take_uses (l.front.count - length l.uses.items) (words_left (option_copied l.rest)));
  few : length l.uses.items ≤ l.front.count;
}

abbrev pub decreases-loop-rest : goal.decreases-loop-rest
decreases-loop-rest l = l.front.count - length l.uses.items
