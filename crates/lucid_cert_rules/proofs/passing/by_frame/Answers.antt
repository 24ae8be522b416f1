use Rattle.lucid_cert_rules.proofs.FollowingCommon.{◌≡◌, subst, context_of, table_of}
use Rattle.lucid_tags.specs.Known.{IsInnermost}
use Rattle.lucid_tags.specs.declared.Frame.TheVariants.{Frozen}
use Rattle.lucid_cert_rules.proofs.Going.{current_goes}
use Rattle.lucid_cert_rules.proofs.passing.by_frame.Goals as goal

pub returns-in-Current-Some-Frozen-clause-at : goal.returns-in-Current-Some-Frozen-clause-at
returns-in-Current-Some-Frozen-clause-at c =
    let same : c.in-Current-Some-Frozen.field-0-1 ≡ Frozen c.in-Current-Some-Frozen.time = search in
    current_goes (table_of c.args.program.now) c.args.name c.in-Current-Some-Frozen.body (context_of c.args.tags.now c.args.context)
    (context_of c.args.tags.now c.cut.result) c.in-Current-Some-Frozen.time c.args.time
    c.level.result c.in-Current-Some-Frozen.ensures.row
    (subst (λ f. IsInnermost c.args.tags.now f (context_of c.args.tags.now c.args.context)) same c.in-Current-Some-Frozen.ensures'.innermost)
    c.level.ensures.level
    c.cut.ensures.context
