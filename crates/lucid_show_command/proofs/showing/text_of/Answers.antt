use Rattle.lucid_show_command.proofs.Common.{◌∙◌, subst, IfOk-weaker}
use Rattle.lucid_scope.specs.Scoped.{scoped_tree, scoped_inputs}
use Rattle.lucid_show_outline.specs.Views.{View, view}
use Rattle.lucid_show_command.specs.Shows.{Draws, IsDrawing}
use Rattle.lucid_show_command.specs.Words.{plain_wanted}
use Rattle.lucid_show_command.proofs.showing.text_of.Goals as goal

pub returns : goal.returns
returns c =
    let s = c.args.certified.now.scoped in
    let why = c.in-Ok.why in
    let w = plain_wanted c.args.wanted.now in
    IfOk-weaker c.drawing.result _ (λ text. Draws (scoped_tree s) (scoped_inputs s) c.args.certificate.now w text.items)
    (λ text is. (
      why,
      c.in-Ok.ensures.text,
      subst (λ (v : View). IsDrawing w.form v w.words.count text.items)
          (c.in_ok-source.ensures ∙ (λ j. view ((c.table.ensures.value ∙ c.requires) j) (c.tree.ensures.value j) why (c.deref.ensures.value j))) is,
    )) c.drawing.ensures
