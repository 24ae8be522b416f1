use Rattle.std.proofs.Common.{sym, subst}
use Rattle.lucid_words.specs.declared.Source.{Source}
use Rattle.lucid_words.specs.Plain.{plain_source}
use Rattle.lucid_explain_report.specs.Said.{source_files, TellsFiles}
use Rattle.lucid_explain_report.proofs.Told.{told_none}
use Rattle.lucid_explain_report.proofs.faults.put_source.Goals as goal

pub returns-in-Made : goal.returns-in-Made
returns-in-Made g c =
    let P : Source → Type 0 = λ s. TellsFiles (g.F.Outlook.files c.args.outlook.now) (source_files (plain_source s)) c.args.text.now.items
    c.args.text.now.items in
    subst P (sym c.in-Made.is) (told_none (g.F.Outlook.files c.args.outlook.now) c.args.text.now.items)
