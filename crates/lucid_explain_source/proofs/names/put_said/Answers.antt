use Rattle.lucid_explain_source.proofs.names.put_said.Goals as goal

pub returns-in-Arity : goal.returns-in-Arity
returns-in-Arity c = rw c.in-Arity.is c.put_advised.ensures
