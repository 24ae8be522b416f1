use Rattle.lucid_tree.proofs.Common.{ReadsAtSome}
use Rattle.lucid_tree.proofs.RestsDefined.{rest_defined, next_defined, nothing_undefined}
use Rattle.lucid_tree.proofs.laws.rests_are_defined.Goals as goal

pub returns-clause-rest : goal.returns-clause-rest
returns-clause-rest c rs r p q v h = rest_defined (ReadsAtSome rs) r h p q v

pub returns-clause-next : goal.returns-clause-next
returns-clause-next c rs r p ls k v h = next_defined (ReadsAtSome rs) r h p ls k v

pub returns-clause-nothing : goal.returns-clause-nothing
returns-clause-nothing c rs r p h = nothing_undefined (ReadsAtSome rs) r h p
