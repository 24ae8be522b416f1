use Rattle.lucid_tree.proofs.Common.{◌≡◌, length, ap, ◌∙◌, sym, count}
use Rattle.lucid_tree.specs.declared.shape.Head.TheVariants.{Apply}
use Rattle.lucid_tree.specs.declared.shape.Shape.TheVariants.{Form}
use Rattle.lucid_tree.proofs.shape.apply.Goals as goal
use Rattle.lucid_tree.proofs.Counts.{count_listed}

pub returns : goal.returns
returns c =
    let at = c.args.at in
    let op = c.args.op in
    let number : length c.items.result.now ≡ count c.args.args.now = sym (count_listed c.items.result.now) ∙ ap count c.items.ensures in
    ap (λ n. Form at (Apply op n) c.parts-parts.result) number
    ∙ ap (λ es. Form at (Apply op (count c.args.args.now)) es) c.parts-parts.ensures
