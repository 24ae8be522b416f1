use Rattle.lucid_demand.proofs.turn.Evaluation.step.Given as goal

abbrev pub ghost-decided : goal.ghost-decided
ghost-decided g a = a.self.now.engine.known
