use Rattle.lucid_ports.proofs.OutputLemmas.{keeps_settled}
use Rattle.lucid_ports.proofs.real_sink.is_flushed.Goals as goal

pub returns : goal.returns
returns g c = keeps_settled _ _ (g.met.W.Output.settled c.flush.new.self c.args.writer.now) c.flush.ensures.bytes
