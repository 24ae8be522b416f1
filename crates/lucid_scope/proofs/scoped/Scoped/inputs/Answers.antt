use Rattle.lucid_scope.specs.Scoped.{scoped_tree, scoped_inputs, scoped_binding}
use Rattle.lucid_scope.proofs.Inputs.{inputs-differ, inputs-few}
use Rattle.lucid_scope.proofs.scoped.Scoped.inputs.Goals as goal

pub returns-clause-differ : goal.returns-clause-differ
returns-clause-differ c =
    inputs-differ (scoped_tree c.args.self.now) (scoped_inputs c.args.self.now) (scoped_binding c.args.self.now) c.args.self.now.resolved

pub returns-clause-few : goal.returns-clause-few
returns-clause-few c =
    inputs-few (scoped_tree c.args.self.now) (scoped_inputs c.args.self.now) (scoped_binding c.args.self.now) c.args.self.now.resolved
