use Rattle.lucid_scope.proofs.Common.{sym}
use Rattle.lucid_scope.proofs.settle.first_fault.Goals as goal

pub returns-in-Some : goal.returns-in-Some
returns-in-Some c = record {
  index = c.loop-mark.mark-index;
  mark = c.mark-item.result;
  within = c.loop-mark-test.true;
  is_there = c.mark-item.is;
  is = sym c.in-Some.ensures;
  first = c.loop-mark.invariant;
}
