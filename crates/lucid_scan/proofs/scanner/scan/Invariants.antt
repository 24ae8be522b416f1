use Rattle.lucid_scan.proofs.Common.{ℕ, ◌-◌, ◌≤◌, ◌++◌, List, drop, length, Token, Tokens, Stuck}
use Rattle.lucid_scan.proofs.scanner.scan.Given as goal

-- the tokens so far go on with those of the rest
abbrev pub invariant-loop-alloc : goal.invariant-loop-alloc
invariant-loop-alloc l = record {
  small : length l.source ≤ 1048576;
  within : l.at ≤ length l.source;
  goes_on : (ts : List Token) → Tokens (drop l.at l.source) l.at ts → Tokens l.source 0 (l.tokens.items ++ ts);
  gets_stuck : (place : ℕ) (rest : List ℕ) → Stuck (drop l.at l.source) l.at place rest → Stuck l.source 0 place rest;
}

abbrev pub decreases-loop-alloc : goal.decreases-loop-alloc
decreases-loop-alloc l = length l.source - l.at
