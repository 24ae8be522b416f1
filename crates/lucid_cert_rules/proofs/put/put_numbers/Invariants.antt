use Rattle.lucid_cert_rules.proofs.Common.{◌≡◌, ◌++◌, map, take, decimal, spaced}
use Rattle.lucid_cert_rules.proofs.put.put_numbers.Given as goal

abbrev pub invariant-loop-n : goal.invariant-loop-n
invariant-loop-n l = l.to.items ≡ l.fn.to.items ++ spaced (map decimal (take l.n-index l.numbers))
