use Rattle.std.proofs.Common.{ℕ, IfOk, subst}
use Rattle.lucid_show_outline.specs.Views.{view_of}
use Rattle.lucid_show_outline.specs.Lines.{IsOutlineOf}
use Rattle.lucid_show_outline.proofs.outline.outline_text.Goals as goal

pub returns : goal.returns
returns c =
    subst (λ (i : ℕ). IfOk c.outline_of.result (λ text. IsOutlineOf (view_of c.args.source.now) c.args.most i text.items)) c.last.ensures c.outline_of.ensures
