use Rattle.lucid_demand.proofs.turn.Evaluation.decided.Given as goal

abbrev pub ghost-decide : goal.ghost-decide
ghost-decide g a = g.known
