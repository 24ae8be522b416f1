use Rattle.lucid_ports.proofs.Common.{◌≡◌, ◌∙◌, vec_len, rules, arith}
use Rattle.lucid_ports.proofs.ContentsLemmas.{both_consumed, both_read, all_read}
use Rattle.lucid_ports.proofs.WorldLemmas.{KeepsOthers-trans}
use Rattle.lucid_ports.proofs.reading.read_at_most.Goals as goal

pub returns-then-taken-eq0-clause-bytes : goal.returns-then-taken-eq0-clause-bytes
returns-then-taken-eq0-clause-bytes g c =
    let before = c.loop-bytes.invariant in
    let taken = c.in_ok-taken.ensures in
    let read = both_read (vec_len c.loop-bytes.bytes) c.in_ok-taken.taken (vec_len c.take_piece.new.bytes) _ _ _ _ before.contents taken.len before.bytes
    taken.bytes in
    let same : vec_len c.take_piece.new.bytes ≡ vec_len c.loop-bytes.bytes = omega (arith, taken.len) in
    all_read (vec_len c.take_piece.new.bytes) _ _ _ _ _ _ (rw same before.contents) (omega arith) read c.if-taken-eq0.true (omega arith) taken.end

pub returns-in_err-taken-clause-late : goal.returns-in_err-taken-clause-late
returns-in_err-taken-clause-late g c good = c.in_err-taken.ensures.late (c.loop-bytes.invariant.faults ∙ good) ∙ c.loop-bytes.invariant.late good

pub returns-then-taken-eq0-clause-late : goal.returns-then-taken-eq0-clause-late
returns-then-taken-eq0-clause-late g c good = c.in_ok-taken.ensures.late (c.loop-bytes.invariant.faults ∙ good) ∙ c.loop-bytes.invariant.late good

pub loop-bytes-preserved : goal.loop-bytes-preserved
loop-bytes-preserved g c =
    let before = c.loop-bytes.invariant in
    let taken = c.in_ok-taken.ensures in
    record {
      bound = omega arith;
      bytes = both_read _ _ _ _ _ _ _ before.contents taken.len before.bytes taken.bytes;
      contents = both_consumed _ _ _ _ _ _ before.contents taken.len taken.consumed;
      reached = search rules;
      faults = search rules;
      late = λ good. taken.late (before.faults ∙ good) ∙ before.late good;
      others = KeepsOthers-trans _ _ _ _ before.others taken.others;
    }
