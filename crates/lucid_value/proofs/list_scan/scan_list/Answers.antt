use Rattle.lucid_value.proofs.Common.{sym, ◌∙◌, state_of}
use Rattle.lucid_value.proofs.Fronts.{scan_refused, scan_more, scan_whole}
use Rattle.lucid_value.proofs.list_scan.scan_list.Goals as goal

pub returns-then-not-branch : goal.returns-then-not-branch
returns-then-not-branch c =
    scan_refused c.args.tail.now c.loop-i.i (state_of c.loop-i.scan) (state_of c.step.new.self) c.in_ok-step.field-0 c.loop-i.invariant.reads
    c.loop-i.invariant.open_yet c.loop-i-test.true c.in_ok-step.ensures c.if-not-branch.true

pub returns-then-is_done : goal.returns-then-is_done
returns-then-is_done c =
    scan_whole c.args.tail.now c.loop-i.i (state_of c.loop-i.scan) c.step.new.self.focus c.step.new.self.pending.items c.step.new.self.items
    c.step.new.self.outer c.in_ok-step.field-0 c.loop-i.invariant.reads c.loop-i-test.true c.in_ok-step.ensures c.if-not-branch.false
    (sym c.is_done.ensures ∙ c.if-is_done.true)

pub loop-i-preserved : goal.loop-i-preserved
loop-i-preserved c = record {
  reads = scan_more c.args.tail.now c.loop-i.i (state_of c.loop-i.scan) (state_of c.step.new.self) c.in_ok-step.field-0 c.loop-i.invariant.reads
      c.loop-i-test.true c.in_ok-step.ensures c.if-not-branch.false;
  open_yet = sym c.is_done.ensures ∙ c.if-is_done.false;
}
