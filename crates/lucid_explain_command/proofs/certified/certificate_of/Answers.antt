use Rattle.std.proofs.Common.{List, String, Global, map, ap, subst, ◌∙◌}
use Rattle.std.specs.Prelude.{option_map}
use Rattle.std.specs.String.{string_bytes}
use Rattle.std.proofs.lemmas.Result.{IfOk-weaker}
use Rattle.lucid_words.specs.Asked.{plain_words}
use Rattle.lucid_explain_command.proofs.Common.{Given, plain_given, given_file}
use Rattle.lucid_explain_command.specs.Errors.{plain_file, as_named, file_read, Adds, Calls, IsMade}
use Rattle.lucid_explain_command.proofs.Making.{made_by}
use Rattle.lucid_explain_command.proofs.certified.certificate_of.Goals as goal

pub returns : goal.returns
returns g c =
    let files = g.F.Outlook.files c.args.outlook.now in
    let words = map string_bytes c.args.call.now.words.now in
    let asked = plain_words c.args.call.now.asked.now in
    let name = c.args.call.now.name.now in
    let source = c.args.call.now.source.now in
    let those = c.in_ok-files.files.items in
    let G : List Given → Type 0 = λ z. Adds files (map as_named (map given_file (map plain_given z))) (file_read name source) (map plain_file those) in
    let read = subst G c.deref.ensures.value c.in_ok-files.ensures in
    let again = map string_bytes c.deref-2.result.now in
    let same = ap (λ (z : List (String Global)). map string_bytes z) c.deref-2.ensures.value ∙ c.in_ok-words.ensures in
    IfOk-weaker c.call_over.result (λ found. Calls again those (option_map (λ bytes. bytes.items) found))
    (λ found. IsMade files words asked name source c.args.call.now.time (option_map (λ bytes. bytes.items) found))
    (λ found calls. made_by files words again asked name source c.args.call.now.time those (option_map (λ bytes. bytes.items) found) read same calls)
    c.call_over.ensures
