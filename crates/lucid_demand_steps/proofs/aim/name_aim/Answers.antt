use Rattle.lucid_demand_steps.proofs.DecidingCommon.{arith, context_of, program_equations}
use Rattle.lucid_demand_steps.proofs.Aims.{few-frames}
use Rattle.lucid_demand_steps.proofs.aim.name_aim.Goals as goal

pub returns-then-from-level-clause-aim : goal.returns-then-from-level-clause-aim
returns-then-from-level-clause-aim c =
    few-frames (program_equations c.args.program.now) c.args.named.name c.args.named.level (context_of c.args.tags.now c.args.tag) c.args.time
    (omega (arith, c.level.ensures.level, c.from.ensures, c.if-from-level.true))
