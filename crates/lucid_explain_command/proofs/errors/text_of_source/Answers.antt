use Rattle.lucid_explain_command.proofs.Common.{ℕ, List, map, subst, string_bytes, plain_words, IfOk-weaker}
use Rattle.lucid_explain_command.specs.Errors.{SaysUnmade, SaysMade, SaysOfTime, made, not_made}
use Rattle.lucid_explain_command.proofs.errors.text_of_source.Goals as goal

pub returns-in-Some : goal.returns-in-Some
returns-in-Some g c =
    let files = g.F.Outlook.files c.args.outlook.now in
    let terminal = g.F.Outlook.terminal c.args.outlook.now in
    let call = c.args.call.now in
    let words = map string_bytes call.words.now in
    let asked = plain_words call.asked.now in
    let source = call.source.now in
    let is = rw c.in-Some.is at c.in_ok-certificate.ensures in
    IfOk-weaker c.text_made.result (λ text. SaysMade files asked call.name.now source c.deref.result.now text.items)
    (λ text. SaysOfTime files terminal words asked call.name.now source call.time text.items)
    (λ text t. let R : List ℕ → Type 0 = λ z. SaysMade files asked call.name.now source z text.items in
    made c.in-Some.certificate.items is (subst R c.deref.ensures.value t)) c.text_made.ensures

pub returns-in-None : goal.returns-in-None
returns-in-None g c =
    let files = g.F.Outlook.files c.args.outlook.now in
    let terminal = g.F.Outlook.terminal c.args.outlook.now in
    let call = c.args.call.now in
    let words = map string_bytes call.words.now in
    let asked = plain_words call.asked.now in
    let source = call.source.now in
    let is = rw c.in-None.is at c.in_ok-certificate.ensures in
    IfOk-weaker c.text_unmade.result (λ text. SaysUnmade terminal asked source text.items)
    (λ text. SaysOfTime files terminal words asked call.name.now source call.time text.items)
    (λ text t. not_made is t) c.text_unmade.ensures
