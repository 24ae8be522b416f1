use Rattle.lucid_flat.proofs.SoundCommon.{◌<◌, List, length, subst, ScopeRow}
use Rattle.lucid_flat.proofs.FormsRight.{form-node, node-form}
use Rattle.lucid_flat.proofs.nodes.is_node_right.Goals as goal

pub returns-then-row-items : goal.returns-then-row-items
returns-then-row-items c =
    let t = c.args.table.now in
    let r = c.args.row.now in
    let Here : List ScopeRow → Type 0 = λ xs. r.scope < length xs in (
      λ e. form-node t r.scope c.args.id r.node (subst Here c.items.ensures.value c.if-row-items.true) (c.is_form_right.ensures.0 e),
      λ h. c.is_form_right.ensures.1 (node-form t r.scope c.args.id r.node h),
    )
