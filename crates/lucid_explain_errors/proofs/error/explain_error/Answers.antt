use Rattle.std.proofs.lemmas.Result.{IfOk-weaker}
use Rattle.lucid_explain_errors.specs.Errors.{TellsWhy, TellsError, by_text}
use Rattle.lucid_explain_errors.proofs.error.explain_error.Goals as goal

pub returns-in-Ok : goal.returns-in-Ok
returns-in-Ok c =
    let file = c.args.file.now in
    let source = c.args.source.now in
    let inputs = c.args.inputs.now in
    let certificate = c.args.certificate.now in
    let is = rw c.in-Ok.is at c.read_why.ensures.text in
    IfOk-weaker c.text_of_why.result (λ text. TellsWhy file source inputs c.in-Ok.why text.items) (λ text. TellsError file source inputs certificate text.items)
    (λ text t. by_text c.in-Ok.why is t) c.text_of_why.ensures

pub returns-in-Err-Form : goal.returns-in-Err-Form
returns-in-Err-Form c = c.text_of_none.ensures c.args.file.now c.args.source.now c.args.inputs.now
