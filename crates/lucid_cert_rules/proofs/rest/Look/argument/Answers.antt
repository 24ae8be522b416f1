use Rattle.lucid_cert_rules.proofs.FollowingCommon.{[], ◌∷◌, ◌++◌, ◌-◌, suc, arith, arity}
use Rattle.lucid_cert_rules.proofs.Alike.{argument_next, last_argument}
use Rattle.lucid_cert_rules.proofs.rest.Look.argument.Goals as goal

pub returns-then-part-arity-clause-plan : goal.returns-then-part-arity-clause-plan
returns-then-part-arity-clause-plan c m most vs v =
    argument_next c.args.op c.args.self.time c.args.self.space most m (vs ++ v ∷ []) c.args.self.part (omega arith)

pub returns-else-part-arity-clause-plan : goal.returns-else-part-arity-clause-plan
returns-else-part-arity-clause-plan c m most vs v =
    last_argument c.args.op c.args.self.time c.args.self.space most (vs ++ v ∷ []) (arity c.args.op - suc c.args.self.part) (suc c.args.self.part) (omega arith)
