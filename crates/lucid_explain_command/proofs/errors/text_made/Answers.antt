use Rattle.lucid_explain_command.proofs.Common.{ℕ, List, map, subst, plain_given, plain_words, IfOk-weaker, Given}
use Rattle.lucid_explain_errors.specs.declared.inputs.Input.{Input}
use Rattle.lucid_explain_errors.specs.Errors.{TellsError}
use Rattle.lucid_explain_command.specs.Errors.{plain_input, AreReadAgain, SaysMade}
use Rattle.lucid_explain_command.proofs.errors.text_made.Goals as goal

pub returns : goal.returns
returns g c =
    let files = g.F.Outlook.files c.args.outlook.now in
    let call = c.args.call.now in
    let asked = plain_words call.asked.now in
    let source = call.source.now in
    let certificate = c.args.certificate.now in
    let inputs = c.in_ok-inputs.inputs.items in
    let R : List Given → Type 0 = λ z. AreReadAgain files (map plain_given z) (map plain_input inputs) in
    let again = subst R c.deref.ensures.value c.in_ok-inputs.ensures in
    IfOk-weaker c.explain_error.result (λ text. TellsError c.as_bytes.result.now source c.deref-2.result.now certificate text.items)
    (λ text. SaysMade files asked call.name.now source certificate text.items)
    (λ text t. let P : List ℕ → Type 0 = λ z. TellsError z source c.deref-2.result.now certificate text.items in
    let Q : List Input → Type 0 = λ z. TellsError call.name.now source z certificate text.items in
    (inputs, again, subst Q c.deref-2.ensures.value (subst P c.as_bytes.ensures.value t))) c.explain_error.ensures
