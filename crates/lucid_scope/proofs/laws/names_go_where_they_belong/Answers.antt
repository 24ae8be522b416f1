use Rattle.lucid_scope.proofs.Environments.{name_aims, call_aims}
use Rattle.lucid_scope.proofs.laws.names_go_where_they_belong.Goals as goal

pub returns-clause-names : goal.returns-clause-names
returns-clause-names c x env k h t = name_aims x h t

pub returns-clause-calls : goal.returns-clause-calls
returns-clause-calls c at x es caller env k h t = call_aims at x es caller h t
