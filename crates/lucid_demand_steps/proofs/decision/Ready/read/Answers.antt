use Rattle.lucid_demand_steps.proofs.DecidingCommon.{arith, Refuse, Read}
use Rattle.std.specs.Prelude.{◌≡◌, ◌<◌}
use Rattle.lucid_equations.specs.declared.rows.Node.TheVariants as node
use Rattle.lucid_demand_steps.proofs.Deciding.{decides_where}
use Rattle.lucid_demand_steps.proofs.Leaves.{input_reads, input_refuses}
use Rattle.lucid_demand_steps.proofs.decision.Ready.read.Goals as goal

pub returns-then-self-eq0 : goal.returns-then-self-eq0
returns-then-self-eq0 c = λ forest. decides_where forest c.args.self.slot c.args.self.task (node.Input c.args.stream) (λ x. x.depth ≡ 0) (λ x. Refuse)
    (omega (arith, c.if-self-eq0.true))
    (λ T known its is there e range none. input_refuses T known forest c.args.self.slot its is c.args.stream e range none)

pub returns-else-self-eq0 : goal.returns-else-self-eq0
returns-else-self-eq0 c = λ forest. decides_where forest c.args.self.slot c.args.self.task (node.Input c.args.stream) (λ x. 0 < x.depth)
    (λ x. Read c.args.stream) (omega (arith, c.if-self-eq0.false))
    (λ T known its is there e range deep. input_reads T known forest c.args.self.slot its is c.args.stream e range deep)
