use Rattle.lucid_cert_rules.proofs.FollowingCommon.{arith, context_of, table_of}
use Rattle.lucid_cert_rules.proofs.Going.{few_frames}
use Rattle.lucid_cert_rules.proofs.passing.by_name.Goals as goal

pub returns-then-from-level-clause-at : goal.returns-then-from-level-clause-at
returns-then-from-level-clause-at c = few_frames (table_of c.args.program.now) c.args.named.name c.args.named.level (context_of c.args.tags.now c.args.context) c.args.time
    (omega (arith, c.level.ensures.level, c.from.ensures, c.if-from-level.true))
