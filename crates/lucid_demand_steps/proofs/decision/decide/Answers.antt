use Rattle.lucid_demand_steps.proofs.DecidingCommon.{sym, ap, ◌∙◌, subst, node_by, NodeIsInRange, sizes}
use Rattle.std.proofs.Common.{Some}
use Rattle.lucid_tree.specs.declared.form.Form.TheVariants as forms
use Rattle.lucid_equations.specs.Rows.{read}
use Rattle.lucid_equations.specs.Programs.{table_of}
use Rattle.lucid_demand_steps.proofs.Deciding.{its_ready}
use Rattle.lucid_demand_steps.proofs.FormNodes.{form_count, form_row}
use Rattle.lucid_demand_steps.proofs.Leaves.{constant_decides}
use Rattle.lucid_demand_steps.proofs.decision.decide.Goals as goal

pub returns-in-Const : goal.returns-in-Const
returns-in-Const g c = λ its there.
    constant_decides c.args.tasks.now c.args.slot c.task-task.result c.in-Const.constant (table_of c.args.program.now) g.known its
    (its_ready (table_of c.args.program.now) g.known c.args.tasks.now c.args.slot c.requires its there c.task-task.result c.task-task.ensures)
    (c.node-node.ensures.row ∙ ap Some c.in-Const.is) (c.node-node.ensures.meaning ∙ ap (node_by (table_of c.args.program.now)) c.in-Const.is)
    (subst (NodeIsInRange (sizes (table_of c.args.program.now)) c.task-task.result.node) c.in-Const.is c.node-node.ensures.in_range)

pub stream-requires-clause-count : goal.stream-requires-clause-count
stream-requires-clause-count g c = form_count (table_of c.args.program.now) c.task-task.result.node c.node-node.result c.node-node.ensures.row forms.If _ (ap read c.in-If.is)

pub returns-in-If : goal.returns-in-If
returns-in-If g c = λ its there.
    c.stream.ensures g.known its
    (form_row (table_of c.args.program.now) g.known c.args.tasks.now c.args.slot c.requires c.task-task.result c.task-task.ensures c.node-node.result
    c.node-node.ensures.row c.node-node.ensures.meaning forms.If _ (ap read c.in-If.is) its there)

pub stream-requires-in-Whenever-clause-count : goal.stream-requires-in-Whenever-clause-count
stream-requires-in-Whenever-clause-count g c = form_count (table_of c.args.program.now) c.task-task.result.node c.node-node.result c.node-node.ensures.row forms.Whenever _ (ap read c.in-Whenever.is)

pub returns-in-Whenever : goal.returns-in-Whenever
returns-in-Whenever g c = λ its there.
    c.stream-in-Whenever.ensures g.known its
    (form_row (table_of c.args.program.now) g.known c.args.tasks.now c.args.slot c.requires c.task-task.result c.task-task.ensures c.node-node.result
    c.node-node.ensures.row c.node-node.ensures.meaning forms.Whenever _ (ap read c.in-Whenever.is) its there)

pub stream-requires-in-Asa-clause-count : goal.stream-requires-in-Asa-clause-count
stream-requires-in-Asa-clause-count g c = form_count (table_of c.args.program.now) c.task-task.result.node c.node-node.result c.node-node.ensures.row forms.Asa _ (ap read c.in-Asa.is)

pub returns-in-Asa : goal.returns-in-Asa
returns-in-Asa g c = λ its there.
    c.stream-in-Asa.ensures g.known its
    (form_row (table_of c.args.program.now) g.known c.args.tasks.now c.args.slot c.requires c.task-task.result c.task-task.ensures c.node-node.result
    c.node-node.ensures.row c.node-node.ensures.meaning forms.Asa _ (ap read c.in-Asa.is) its there)

pub stream-requires-in-Upon-clause-count : goal.stream-requires-in-Upon-clause-count
stream-requires-in-Upon-clause-count g c = form_count (table_of c.args.program.now) c.task-task.result.node c.node-node.result c.node-node.ensures.row forms.Upon _ (ap read c.in-Upon.is)

pub returns-in-Upon : goal.returns-in-Upon
returns-in-Upon g c = λ its there.
    c.stream-in-Upon.ensures g.known its
    (form_row (table_of c.args.program.now) g.known c.args.tasks.now c.args.slot c.requires c.task-task.result c.task-task.ensures c.node-node.result
    c.node-node.ensures.row c.node-node.ensures.meaning forms.Upon _ (ap read c.in-Upon.is) its there)

pub stream-requires-in-Some-clause-count : goal.stream-requires-in-Some-clause-count
stream-requires-in-Some-clause-count g c = form_count (table_of c.args.program.now) c.task-task.result.node c.node-node.result c.node-node.ensures.row c.in-Some.form _ (sym c.in-Some.ensures)

pub returns-in-Some : goal.returns-in-Some
returns-in-Some g c = λ its there.
    c.stream-in-Some.ensures g.known its
    (form_row (table_of c.args.program.now) g.known c.args.tasks.now c.args.slot c.requires c.task-task.result c.task-task.ensures c.node-node.result
    c.node-node.ensures.row c.node-node.ensures.meaning c.in-Some.form _ (sym c.in-Some.ensures) its there)
