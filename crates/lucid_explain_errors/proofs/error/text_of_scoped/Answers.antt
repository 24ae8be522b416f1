use Rattle.std.proofs.Common.{map, ◌∙◌}
use Rattle.std.proofs.lemmas.Result.{IfOk-weaker}
use Rattle.lucid_scope.specs.Scoped.{scoped_tree, scoped_inputs}
use Rattle.lucid_cert_rules.specs.Certificates.{plain_judgment}
use Rattle.lucid_explain_errors.specs.Errors.{TellsWay, TellsWhy}
use Rattle.lucid_explain_errors.proofs.Telling.{why_told}
use Rattle.lucid_explain_errors.proofs.error.text_of_scoped.Goals as goal

pub returns : goal.returns
returns c =
    let read = c.args.read.now in
    let file = read.file.now in
    let source = read.source.now in
    let inputs = read.inputs.now in
    let w = read.why.now in
    let tree = c.tree.result.now in
    let js = map plain_judgment c.items.result.now in
    let T = c.table.result.now in
    let x = c.args.traced in
    IfOk-weaker c.text_of_way.result
    (λ text. TellsWay (record { file = file; source = source; tree = tree; judgments = js; inputs = inputs; traced = x }) T c.last_number.result text.items)
    (λ text. TellsWhy file source inputs w text.items)
    (λ text way. why_told file source text.items inputs w x (scoped_tree c.args.scoped.now) tree (scoped_inputs c.args.scoped.now) js T c.last_number.result
    c.requires.traced c.requires.program c.tree.ensures.value c.items.ensures (c.table.ensures.value ∙ c.in_ok-program.ensures.exact) c.last_number.ensures way)
    c.text_of_way.ensures
