use Rattle.lucid_test_programs.proofs.Common.{arith}
use Rattle.lucid_test_programs.proofs.Written.{writes_none, front_so_far, more_stands, stop_stands, ends_of}
use Rattle.lucid_test_programs.proofs.running.run.Goals as goal

pub loop-time-init : goal.loop-time-init
loop-time-init g c = record { writes = writes_none _ _ _ _; count = omega arith }

pub returns-in-Ok-End-clause-done : goal.returns-in-Ok-End-clause-done
returns-in-Ok-End-clause-done g c =
    ends_of _ _ _ c.loop-time.time _ _ _ _ _ _ c.loop-time.invariant.writes c.loop-time-test.true c.from.ensures c.in-Ok-End.ensures c.in-Ok-End.field-0-is
    c.summary.ensures.lines c.summary.ensures.ended c.summary.ensures.nothing_stored

pub returns-in-Err-clause-stops : goal.returns-in-Err-clause-stops
returns-in-Err-clause-stops g c = front_so_far _ _ _ c.loop-time.time _ _ _ c.loop-time.invariant.writes (omega (arith, c.loop-time-test.true))

pub returns-in-Err-write_line-clause-stops : goal.returns-in-Err-write_line-clause-stops
returns-in-Err-write_line-clause-stops g c =
    stop_stands _ _ _ c.loop-time.time _ _ _ _ _ _ _ _ _ _ _ _ c.loop-time.invariant.writes c.loop-time-test.true c.loop-time.invariant.count
    c.write_line.ensures.count c.from.ensures c.in-Ok-Bytes.ensures c.in-Ok-Bytes.field-0-is c.deref.ensures.value c.in-Err-write_line.ensures.stops

pub loop-time-preserved : goal.loop-time-preserved
loop-time-preserved g c = record {
  writes = more_stands _ _ _ c.loop-time.time _ _ _ _ _ _ _ c.loop-time.invariant.writes c.from.ensures c.in-Ok-Bytes.ensures c.in-Ok-Bytes.field-0-is
      c.deref.ensures.value c.in-Ok.ensures.whole;
  count = omega (arith, c.loop-time.invariant.count, c.write_line.ensures.count);
}
