use Rattle.lucid_demand_steps.proofs.DecidingCommon.{ap, ◌∙◌, arith, frames, cut, context_of}
use Rattle.std.proofs.Common.{◌≡◌}
use Rattle.lucid_tags.proofs.ContextLemmas.{cut-frames}
use Rattle.lucid_demand_steps.proofs.aim.outer.Goals as goal

pub returns-then-from-level-clause-context : goal.returns-then-from-level-clause-context
returns-then-from-level-clause-context c =
    let own : c.args.level ≡ frames (context_of c.args.tags.now c.args.tag) = omega (arith, c.level.ensures.level, c.from.ensures, c.if-from-level.true) in
    ap (λ n. cut n (context_of c.args.tags.now c.args.tag)) own ∙ cut-frames (context_of c.args.tags.now c.args.tag)
