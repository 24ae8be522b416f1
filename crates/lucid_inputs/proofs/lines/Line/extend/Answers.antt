use Rattle.lucid_inputs.proofs.Common.{◌∙◌, arith}
use Rattle.lucid_inputs.proofs.TakeLemmas.{kept_front}
use Rattle.lucid_inputs.proofs.lines.Line.extend.Goals as goal

pub returns-clause-ok : goal.returns-clause-ok
returns-clause-ok c = c.in_ok-extend_from_slice.ensures.items ∙ kept_front 4194305 _ c.args.self.now.bytes.items c.args.more.now (omega arith) (omega arith)
