use Rattle.std.proofs.lemmas.Result.{on_ok_weaker}
use Rattle.lucid_explain_report.proofs.Told.{told_one, told_not}
use Rattle.lucid_explain_report.proofs.faults.put_if_unread.Goals as goal

pub returns-then-branch : goal.returns-then-branch
returns-then-branch g c =
    let files = g.F.Outlook.files c.args.outlook.now in
    let seen = c.in_ok-is_unread.ensures in
    on_ok_weaker c.put_fault.result
    (λ e. told_one files c.args.name.now seen.0 c.in_ok-is_unread.field-0 c.args.text.now.items c.put_fault.new.text.items seen.1 seen.2 c.if-branch.true e)
    c.put_fault.ensures

pub returns-else-branch : goal.returns-else-branch
returns-else-branch g c =
    let files = g.F.Outlook.files c.args.outlook.now in
    let seen = c.in_ok-is_unread.ensures in
    told_not files c.args.name.now seen.0 c.in_ok-is_unread.field-0 c.args.text.now.items seen.1 seen.2 c.if-branch.false
