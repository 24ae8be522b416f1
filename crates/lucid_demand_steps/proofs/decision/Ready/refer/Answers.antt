use Rattle.lucid_demand_steps.proofs.DecidingCommon.{sym, ◌∙◌}
use Rattle.lucid_equations.specs.declared.rows.Node.TheVariants as node
use Rattle.lucid_demand_steps.specs.declared.decision.Decision.TheVariants.{Part}
use Rattle.lucid_demand_steps.proofs.Deciding.{decides_for}
use Rattle.lucid_demand_steps.proofs.Leaves.{reference_has, name_is, call_is}
use Rattle.lucid_demand_steps.proofs.decision.Ready.refer.Goals as goal

pub returns-else-lacks-clause-names : goal.returns-else-lacks-clause-names
returns-else-lacks-clause-names c = λ n l. decides_for c.args.tasks.now c.args.self.slot c.args.self.task (node.Refer n l) (λ x. Part 0)
    (λ T known its is there e range. reference_has T known c.args.tasks.now c.args.self.slot its is
    (name_is T known c.args.tasks.now c.args.self.slot its is n l e) (sym c.lacks.ensures ∙ c.if-lacks.false))

pub returns-else-lacks-clause-calls : goal.returns-else-lacks-clause-calls
returns-else-lacks-clause-calls c = λ n q l. decides_for c.args.tasks.now c.args.self.slot c.args.self.task (node.Call n q l) (λ x. Part 0)
    (λ T known its is there e range. reference_has T known c.args.tasks.now c.args.self.slot its is
    (call_is T known c.args.tasks.now c.args.self.slot its is n q l e) (sym c.lacks.ensures ∙ c.if-lacks.false))
