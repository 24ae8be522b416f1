use Rattle.lucid_cert_rules.proofs.NeedCommon.{◌≡◌, ◌++◌}
use Rattle.std.proofs.Common.{drop}
use Rattle.lucid_cert_rules.proofs.walk.wait_for.Given as goal

-- the last numbers wait
abbrev pub invariant-loop-i : goal.invariant-loop-i
invariant-loop-i l = l.waiting ≡ drop l.i l.numbers ++ l.initial.waiting
