use Rattle.lucid_test_programs.proofs.Common.{sym, ◌∙◌, ap, Some, tree_at}
use Rattle.lucid_test_programs.proofs.Finds.{tree_at_in, tree_at_past}
use Rattle.lucid_test_programs.proofs.env.tree_in.Goals as goal

pub returns-then-i-trees : goal.returns-then-i-trees
returns-then-i-trees c =
    ap Some c.index-trees-i.is ∙ sym (tree_at_in c.items-trees.result.now c.args.i c.index-trees-i.result c.if-i-trees.true)
    ∙ ap (λ es. tree_at es c.args.i) c.items-trees.ensures

pub returns-else-i-trees : goal.returns-else-i-trees
returns-else-i-trees c =
    sym (tree_at_past c.items-trees.result.now c.args.i c.if-i-trees.false) ∙ ap (λ es. tree_at es c.args.i) c.items-trees.ensures
