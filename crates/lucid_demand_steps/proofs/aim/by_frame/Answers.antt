use Rattle.lucid_demand_steps.proofs.DecidingCommon.{subst, context_of, node_at, program_equations}
use Rattle.std.proofs.Common.{◌≡◌}
use Rattle.lucid_tags.specs.Known.{IsInnermost}
use Rattle.lucid_tags.specs.declared.Frame.TheVariants.{Frozen}
use Rattle.lucid_equations.specs.Programs.{table_of}
use Rattle.lucid_demand_steps.proofs.Aims.{current-goes}
use Rattle.lucid_demand_steps.proofs.aim.by_frame.Goals as goal

pub returns-in-Some-Frozen-clause-aim : goal.returns-in-Some-Frozen-clause-aim
returns-in-Some-Frozen-clause-aim c =
    let same : c.in-Some-Frozen.field-0 ≡ Frozen c.in-Some-Frozen.frozen = search in
    current-goes (program_equations c.args.program.now) c.args.name (node_at (table_of c.args.program.now) c.in-Current.body)
    (context_of c.args.tags.now c.args.tag)
    (context_of c.args.tags.now c.cut-outer.result) c.in-Some-Frozen.frozen c.args.time c.level.result
    c.in-Current.ensures.meaning (subst (λ f. IsInnermost c.args.tags.now f (context_of c.args.tags.now c.args.tag)) same c.in-Some-Frozen.ensures.innermost)
    c.level.ensures.level c.cut-outer.ensures.context
