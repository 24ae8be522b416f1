use Rattle.lucid_ports.proofs.OutputLemmas.{write_appends, write_keeps}
use Rattle.lucid_ports.proofs.real_sink.append.Goals as goal

pub returns-clause-appended : goal.returns-clause-appended
returns-clause-appended g c = write_appends c.write.result _ _ _ _ c.ok.ensures.value (g.met.W.Output.settled c.write.new.self c.args.writer.now)
    c.write.ensures.bytes

pub returns-clause-refused : goal.returns-clause-refused
returns-clause-refused g c = write_keeps c.write.result _ _ _ c.args.piece.now c.ok.ensures.value (g.met.W.Output.settled c.write.new.self c.args.writer.now)
    c.write.ensures.bytes
