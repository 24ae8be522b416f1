use Rattle.std.proofs.Common.{List, ap, ◌∙◌}
use Rattle.std.proofs.lemmas.Result.{IfOk-weaker}
use Rattle.lucid_cert_rules.specs.declared.telling.Entry.{Entry}
use Rattle.lucid_show_outline.specs.Views.{view_of}
use Rattle.lucid_show_outline.specs.Lines.{IsOutlineOf, told_lines}
use Rattle.lucid_show_outline.proofs.outline.outline_of.Goals as goal

pub returns : goal.returns
returns c =
    let v = view_of c.args.source.now in
    let most = c.args.most in
    let i = c.args.number in
    IfOk-weaker c.told_text.result _ (λ text. IsOutlineOf v most i text.items)
    (λ text is. (
      c.in_ok-entries.entries.items,
      c.in_ok-entries.ensures,
      is ∙ ap (λ (es : List Entry). told_lines v most i es) c.deref.ensures.value,
    )) c.told_text.ensures
