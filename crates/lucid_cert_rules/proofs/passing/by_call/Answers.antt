use Rattle.lucid_cert_rules.proofs.FollowingCommon.{arith, length, context_of, table_of}
use Rattle.lucid_cert_rules.proofs.CallPlaces.{places_called}
use Rattle.lucid_cert_rules.proofs.Going.{few_to_call}
use Rattle.lucid_cert_rules.proofs.Inside.{times_called}
use Rattle.lucid_cert_rules.proofs.passing.by_call.Goals as goal

pub returns-then-from-level-clause-at : goal.returns-then-from-level-clause-at
returns-then-from-level-clause-at c = few_to_call (table_of c.args.program.now) c.args.call.name c.args.call.place c.args.call.level
    (context_of c.args.tags.now c.args.context) c.args.time (omega (arith, c.level.ensures.level, c.from.ensures, c.if-from-level.true))

pub returns-clause-within : goal.returns-clause-within
returns-clause-within c times time =
    c.by_frame.ensures.within (times_called c.args.tags.now c.enter_call.new.self c.args.call.place (context_of c.args.tags.now c.args.context)
    (context_of c.args.tags.now c.cut-base.result) c.in_ok-inner.ensures.added times) time

pub returns-clause-places : goal.returns-clause-places
returns-clause-places c below places =
    places_called (length (table_of c.args.program.now).places) c.args.tags.now c.enter_call.new.self c.args.call.place
    (context_of c.args.tags.now c.args.context) (context_of c.args.tags.now c.cut-base.result) c.in_ok-inner.ensures.added below places
