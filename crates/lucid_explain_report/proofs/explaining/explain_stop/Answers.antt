use Rattle.lucid_explain_report.proofs.Common.{map, string_bytes, IfOk-weaker, plain_words, Says, SaysWords, IsExplanation}
use Rattle.lucid_explain_report.specs.Said.{refused_words, asked_words}
use Rattle.lucid_explain_report.proofs.explaining.explain_stop.Goals as goal

pub returns-in-Ok : goal.returns-in-Ok
returns-in-Ok g c =
    let files = g.F.Outlook.files c.args.outlook.now in
    IfOk-weaker c.text_of_call.result (λ text. Says files (plain_words c.in-Ok.asked) c.args.source.now c.args.stop.now text.items)
    (λ text. IsExplanation files (map string_bytes c.args.words.now) c.args.source.now c.args.stop.now text.items)
    (λ text s. asked_words (plain_words c.in-Ok.asked) c.in-Ok.ensures.asked s) c.text_of_call.ensures

pub returns-in-Err-Usage : goal.returns-in-Err-Usage
returns-in-Err-Usage g c =
    let files = g.F.Outlook.files c.args.outlook.now in
    IfOk-weaker c.text_of_words.result (λ text. SaysWords (map string_bytes c.args.words.now) text.items)
    (λ text. IsExplanation files (map string_bytes c.args.words.now) c.args.source.now c.args.stop.now text.items)
    (λ text s. refused_words (c.in-Err-Usage.ensures.asked c.in-Err-Usage.field-0-is) s) c.text_of_words.ensures
