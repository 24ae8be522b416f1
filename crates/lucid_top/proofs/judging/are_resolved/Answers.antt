use Rattle.lucid_top.proofs.judging.are_resolved.Goals as goal

pub returns : goal.returns
returns c = record { resolved = c.inputs.ensures.resolved; few = c.inputs.ensures.few }
