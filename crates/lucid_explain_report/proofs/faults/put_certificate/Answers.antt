use Rattle.std.proofs.Common.{◌≡◌, ◌==◌, length, true, false, sym, ◌∙◌}
use Rattle.lucid_explain_report.proofs.Told.{told_none}
use Rattle.lucid_explain_report.proofs.faults.put_certificate.Goals as goal

pub returns-then-is_empty : goal.returns-then-is_empty
returns-then-is_empty g c =
    let e : (length c.args.name.now == 0) ≡ true = sym c.is_empty.ensures ∙ c.if-is_empty.true in
    rw e (told_none (g.F.Outlook.files c.args.outlook.now) c.args.text.now.items)

pub returns-else-is_empty : goal.returns-else-is_empty
returns-else-is_empty g c =
    let e : (length c.args.name.now == 0) ≡ false = sym c.is_empty.ensures ∙ c.if-is_empty.false in
    rw e c.put_if_unread.ensures
