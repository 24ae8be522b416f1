use Rattle.lucid_demand.proofs.Common.{subst, arith, rules, slice_index_or, Evaluating, sym}
use Rattle.std.proofs.Common.{◌≡◌, ◌<◌, length}
use Rattle.lucid_equations.specs.Programs.{table_of}
use Rattle.lucid_demand.specs.Telling.{IsOperation}
use Rattle.lucid_demand.proofs.ToldTasks.{operation_is}
use Rattle.lucid_demand.proofs.turn.Evaluation.operation.Goals as goal

pub returns-in-Apply : goal.returns-in-Apply
returns-in-Apply g c =
    let three : length c.in-Apply.args ≡ 3 = search rules in
    subst (λ (e : Evaluating). IsOperation e.engine.table c.args.node
    (record { op = c.in-Apply.op; first = slice_index_or c.in-Apply.args 0 0; second = slice_index_or c.in-Apply.args 1 0 })) c.self.view_is
    (operation_is (table_of c.self.inside.program) c.args.node c.in-Apply.op c.in-Apply.args c.self.inside.program.in_range c.in-Apply.ensures.row three
    (omega (arith, c.arity.ensures.arity, c.if-arity-eq2.true))
    (subst (λ (e : Evaluating). c.args.node < length e.engine.table.nodes) (sym c.self.view_is) c.requires))
