use Rattle.lucid_demand_steps.proofs.DecidingCommon.{slice_get-get_or, sym, ◌∙◌, arith, rules, slice_index_or, Apply, AskAll}
use Rattle.std.proofs.Common.{◌≡◌, length}
use Rattle.lucid_equations.specs.Programs.{table_of}
use Rattle.lucid_equations.specs.declared.rows.Node.TheVariants as node
use Rattle.lucid_demand_steps.proofs.Deciding.{decides_in}
use Rattle.lucid_demand_steps.proofs.Applying.{has_argument, asks_all, applies_one, applies_two, applies_three}
use Rattle.lucid_demand_steps.proofs.decision.Ready.apply.Goals as goal

pub returns-then-lacks_argument : goal.returns-then-lacks_argument
returns-then-lacks_argument c =
    let three : length c.args.args ≡ 3 = search rules in
    decides_in (table_of c.args.program.now) c.args.tasks.now c.args.self.slot c.args.self.task (node.Apply c.args.op c.args.args)
    (λ x. AskAll c.args.op c.args.args)
    (λ known its is there e range. asks_all (table_of c.args.program.now) known c.args.tasks.now c.args.self.slot its is c.args.op c.args.args there e 0
    (slice_index_or c.args.args 0 0) (omega (arith, c.arity-arity.ensures.arity, c.arity-arity.ensures.some, c.arity-arity.ensures.few))
    (slice_get-get_or c.args.args 0 0 (omega (arith, three)))
    (sym c.lacks_argument.ensures ∙ c.if-lacks_argument.true))

pub returns-then-arity-eq1 : goal.returns-then-arity-eq1
returns-then-arity-eq1 c =
    let three : length c.args.args ≡ 3 = search rules in
    decides_in (table_of c.args.program.now) c.args.tasks.now c.args.self.slot c.args.self.task (node.Apply c.args.op c.args.args)
    (λ x. Apply c.args.op c.args.args)
    (λ known its is there e range. applies_one (table_of c.args.program.now) known c.args.tasks.now c.args.self.slot its is c.args.op c.args.args there e three
    (omega (arith, c.arity-arity.ensures.arity, c.arity-arity.ensures.some, c.arity-arity.ensures.few, c.if-arity-eq1.true))
    (has_argument (table_of c.args.program.now) known c.args.tasks.now c.args.self.slot its is 0 (slice_index_or c.args.args 0 0)
    (sym c.lacks_argument.ensures ∙ c.if-lacks_argument.false)))

pub lacks_argument-requires-2-clause-node : goal.lacks_argument-requires-2-clause-node
lacks_argument-requires-2-clause-node c =
    let three : length c.args.args ≡ 3 = search rules in
    c.requires.there 1 (slice_index_or c.args.args 1 0)
    (omega (arith, c.arity-arity.ensures.arity, c.arity-arity.ensures.some, c.arity-arity.ensures.few, c.if-arity-eq1.false))
    (slice_get-get_or c.args.args 1 0 (omega (arith, three)))

pub returns-then-lacks_argument-2 : goal.returns-then-lacks_argument-2
returns-then-lacks_argument-2 c =
    let three : length c.args.args ≡ 3 = search rules in
    decides_in (table_of c.args.program.now) c.args.tasks.now c.args.self.slot c.args.self.task (node.Apply c.args.op c.args.args)
    (λ x. AskAll c.args.op c.args.args)
    (λ known its is there e range. asks_all (table_of c.args.program.now) known c.args.tasks.now c.args.self.slot its is c.args.op c.args.args there e 1
    (slice_index_or c.args.args 1 0)
    (omega (arith, c.arity-arity.ensures.arity, c.arity-arity.ensures.some, c.arity-arity.ensures.few, c.if-arity-eq1.false))
    (slice_get-get_or c.args.args 1 0 (omega (arith, three)))
    (sym c.lacks_argument-2.ensures ∙ c.if-lacks_argument-2.true))

pub returns-then-arity-eq2 : goal.returns-then-arity-eq2
returns-then-arity-eq2 c =
    let three : length c.args.args ≡ 3 = search rules in
    decides_in (table_of c.args.program.now) c.args.tasks.now c.args.self.slot c.args.self.task (node.Apply c.args.op c.args.args)
    (λ x. Apply c.args.op c.args.args)
    (λ known its is there e range. applies_two (table_of c.args.program.now) known c.args.tasks.now c.args.self.slot its is c.args.op c.args.args there e three
    (omega (arith, c.arity-arity.ensures.arity, c.arity-arity.ensures.some, c.arity-arity.ensures.few, c.if-arity-eq2.true))
    (has_argument (table_of c.args.program.now) known c.args.tasks.now c.args.self.slot its is 0 (slice_index_or c.args.args 0 0)
    (sym c.lacks_argument.ensures ∙ c.if-lacks_argument.false))
    (has_argument (table_of c.args.program.now) known c.args.tasks.now c.args.self.slot its is 1 (slice_index_or c.args.args 1 0)
    (sym c.lacks_argument-2.ensures ∙ c.if-lacks_argument-2.false)))

pub lacks_argument-requires-3-clause-node : goal.lacks_argument-requires-3-clause-node
lacks_argument-requires-3-clause-node c =
    let three : length c.args.args ≡ 3 = search rules in
    c.requires.there 2 (slice_index_or c.args.args 2 0)
    (omega (arith, c.arity-arity.ensures.arity, c.arity-arity.ensures.some, c.arity-arity.ensures.few, c.if-arity-eq1.false, c.if-arity-eq2.false))
    (slice_get-get_or c.args.args 2 0 (omega (arith, three)))

pub returns-then-lacks_argument-3 : goal.returns-then-lacks_argument-3
returns-then-lacks_argument-3 c =
    let three : length c.args.args ≡ 3 = search rules in
    decides_in (table_of c.args.program.now) c.args.tasks.now c.args.self.slot c.args.self.task (node.Apply c.args.op c.args.args)
    (λ x. AskAll c.args.op c.args.args)
    (λ known its is there e range. asks_all (table_of c.args.program.now) known c.args.tasks.now c.args.self.slot its is c.args.op c.args.args there e 2
    (slice_index_or c.args.args 2 0)
    (omega (arith, c.arity-arity.ensures.arity, c.arity-arity.ensures.some, c.arity-arity.ensures.few, c.if-arity-eq1.false, c.if-arity-eq2.false))
    (slice_get-get_or c.args.args 2 0 (omega (arith, three)))
    (sym c.lacks_argument-3.ensures ∙ c.if-lacks_argument-3.true))

pub returns : goal.returns
returns c =
    let three : length c.args.args ≡ 3 = search rules in
    decides_in (table_of c.args.program.now) c.args.tasks.now c.args.self.slot c.args.self.task (node.Apply c.args.op c.args.args)
    (λ x. Apply c.args.op c.args.args)
    (λ known its is there e range. applies_three (table_of c.args.program.now) known c.args.tasks.now c.args.self.slot its is c.args.op c.args.args there e
    three (omega (arith, c.arity-arity.ensures.arity, c.arity-arity.ensures.some, c.arity-arity.ensures.few, c.if-arity-eq1.false, c.if-arity-eq2.false))
    (has_argument (table_of c.args.program.now) known c.args.tasks.now c.args.self.slot its is 0 (slice_index_or c.args.args 0 0)
    (sym c.lacks_argument.ensures ∙ c.if-lacks_argument.false))
    (has_argument (table_of c.args.program.now) known c.args.tasks.now c.args.self.slot its is 1 (slice_index_or c.args.args 1 0)
    (sym c.lacks_argument-2.ensures ∙ c.if-lacks_argument-2.false))
    (has_argument (table_of c.args.program.now) known c.args.tasks.now c.args.self.slot its is 2 (slice_index_or c.args.args 2 0)
    (sym c.lacks_argument-3.ensures ∙ c.if-lacks_argument-3.false)))
