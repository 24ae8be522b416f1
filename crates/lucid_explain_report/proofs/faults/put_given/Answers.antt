use Rattle.std.proofs.Common.{◌+◌, ◌≡◌, List, [], ◌∷◌, ◌++◌, map, take, sym, ap, ◌∙◌}
use Rattle.std.specs.String.{string_bytes}
use Rattle.std.proofs.lemmas.List.{map_more, map-append}
use Rattle.clap.specs.Words.{Text}
use Rattle.lucid_words.specs.declared.Given.{Given}
use Rattle.lucid_words.specs.Plain.{plain_given}
use Rattle.lucid_explain_report.specs.Said.{given_file}
use Rattle.lucid_explain_report.proofs.Told.{told_none, told_both, told_of}
use Rattle.lucid_explain_report.proofs.faults.put_given.Goals as goal

pub loop-word-init : goal.loop-word-init
loop-word-init g c = told_none (g.F.Outlook.files c.args.outlook.now) c.args.text.now.items

pub loop-word-preserved : goal.loop-word-preserved
loop-word-preserved g c =
    let files = g.F.Outlook.files c.args.outlook.now in
    let given = c.args.given.now in
    let i = c.loop-word.word-index in
    let front = map given_file (map plain_given (take i given)) in
    let whole : map given_file (map plain_given (take (i + 1) given)) ≡ front ++ c.deref.result.now ∷ [] =
    ap (λ (z : List (Text × Text)). map given_file z) (map_more plain_given given i c.word-item.result c.loop-word-test.true)
    ∙ map-append given_file (map plain_given (take i given)) _
    ∙ ap (λ (z : Text). front ++ z ∷ []) (ap (λ (w : Given). string_bytes w.file) (sym c.word-item.is) ∙ sym c.deref.ensures) in
    told_of files (front ++ c.deref.result.now ∷ []) (map given_file (map plain_given (take (i + 1) given))) c.args.text.now.items
    c.put_if_unread.new.text.items
    (sym whole)
    (told_both files front (c.deref.result.now ∷ []) c.args.text.now.items c.loop-word.text.items c.put_if_unread.new.text.items c.loop-word.invariant
    c.in_ok-put_if_unread.ensures)
