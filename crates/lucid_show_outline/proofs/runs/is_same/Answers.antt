use Rattle.std.proofs.lemmas.Bool.Decides.{same_from_decides}
use Rattle.lucid_value.specs.View.{plain}
use Rattle.lucid_value.specs.Equality.{same_value}
use Rattle.lucid_value.specs.EqualityDecides.{same_decides}
use Rattle.lucid_show_outline.proofs.runs.is_same.Goals as goal

pub returns : goal.returns
returns c =
    let v = plain c.args.left.now in
    let w = plain c.args.right.now in
    same_from_decides c.same.result (same_value v w) (c.same.ensures.0, c.same.ensures.1) (same_decides v w)
