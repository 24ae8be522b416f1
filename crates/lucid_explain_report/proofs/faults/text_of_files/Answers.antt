use Rattle.std.proofs.Common.{ℕ, List, [], ◌++◌, map, subst}
use Rattle.std.specs.String.{string_bytes}
use Rattle.clap.specs.Words.{Text}
use Rattle.lucid_words.specs.declared.Given.{Given}
use Rattle.lucid_words.specs.Plain.{plain_source, plain_given}
use Rattle.lucid_explain_report.specs.Said.{source_files, certificate_files, given_file, TellsFiles}
use Rattle.lucid_explain_report.proofs.Told.{told_both}
use Rattle.lucid_explain_report.proofs.faults.text_of_files.Goals as goal

pub returns : goal.returns
returns g c =
    let files = g.F.Outlook.files c.args.outlook.now in
    let first = source_files (plain_source c.args.asked.now.source) in
    let certificate = certificate_files (string_bytes c.args.asked.now.check) in
    let others = map given_file (map plain_given c.args.asked.now.given.items) in
    let after_source = c.put_source.new.text.items in
    let after_certificate = c.put_certificate.new.text.items in
    let P : List ℕ → Type 0 = λ z. TellsFiles files first z after_source in
    let R : Text → Type 0 = λ z. TellsFiles files (certificate_files z) after_source after_certificate in
    let Q : List Given → Type 0 = λ z. TellsFiles files (map given_file (map plain_given z)) after_certificate c.put_given.new.text.items in
    told_both files first (certificate ++ others) [] after_source c.put_given.new.text.items
    (subst P c.new-text.ensures.items c.in_ok-put_source.ensures)
    (told_both files certificate others after_source after_certificate c.put_given.new.text.items
    (subst R c.deref.ensures c.in_ok-put_certificate.ensures) (subst Q c.deref-2.ensures.value c.in_ok-put_given.ensures))
