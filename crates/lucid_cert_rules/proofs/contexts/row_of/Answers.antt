use Rattle.lucid_cert_rules.proofs.RowsOf.{call_is_good, frozen_is_good}
use Rattle.lucid_cert_rules.proofs.contexts.row_of.Goals as goal

pub returns-in-Call-clause-context : goal.returns-in-Call-clause-context
returns-in-Call-clause-context c = λ places are.
    call_is_good c.args.tags.now c.args.tag c.cut.result c.level.result c.number-base.result c.requires.known c.level.ensures.level c.cut.ensures.context
    c.cut.ensures.lower c.number-base.ensures places are
    c.args.frame c.in-Call.place c.number.result c.in-Call.caller c.requires.innermost c.requires.lower c.in-Call.is c.number.ensures

pub returns-in-Frozen-clause-context : goal.returns-in-Frozen-clause-context
returns-in-Frozen-clause-context c = λ places are.
    frozen_is_good c.args.tags.now c.args.tag c.cut.result c.level.result c.number-base.result c.requires.known c.level.ensures.level c.cut.ensures.context
    c.cut.ensures.lower c.number-base.ensures places
    c.args.frame c.in-Frozen.time c.requires.innermost c.in-Frozen.is c.requires.times
