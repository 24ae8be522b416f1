use Rattle.lucid_ports.proofs.Common.{◌∙◌, arith, refl, rules, take_rest}
use Rattle.std.proofs.lemmas.List.{length-drop}
use Rattle.lucid_ports.proofs.WritingLemmas.{both_written, writes_more}
use Rattle.lucid_ports.proofs.writing.write_whole.Goals as goal

pub returns-in_err-taken-clause-late : goal.returns-in_err-taken-clause-late
returns-in_err-taken-clause-late g c good = c.write.ensures.counts_late.1 (c.loop-done.invariant.faults ∙ good) ∙ c.loop-done.invariant.late good

pub loop-done-preserved : goal.loop-done-preserved
loop-done-preserved g c =
    let piece = c.args.piece.now in
    let before = c.loop-done.invariant in
    let taken = c.in_ok-taken.ensures in
    record {
      within = omega (arith, taken.bound, length-drop c.loop-done.done piece);
      written = both_written c.loop-done.done c.in_ok-taken.taken _ piece _ _ _ _ (take_rest piece c.loop-done.done) refl before.written taken.appended;
      taken = writes_more g.K.Sink.write_gives before.taken.0 _ c.loop-done.sink c.write.new.self _ c.write.result c.in_ok-taken.taken before.taken.1 c.write.ensures.gives cc;
      faults = search rules;
      late = λ good. c.write.ensures.counts_late.1 (before.faults ∙ good) ∙ before.late good;
    }
