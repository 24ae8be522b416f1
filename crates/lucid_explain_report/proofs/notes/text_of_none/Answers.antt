use Rattle.lucid_explain_report.specs.Notes.{refused}
use Rattle.lucid_explain_report.proofs.notes.text_of_none.Goals as goal

pub returns : goal.returns
returns c = refused c.args.refusal c.requires.known c.requires.refused c.new.ensures.items
