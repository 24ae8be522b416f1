use Rattle.lucid_cert_rules.proofs.Common.{Option, Some, sym, ap, ◌∙◌, subst, option_map, why_rows, IsRowOf, why_of}
use Rattle.lucid_cert_rules.specs.RowLines.{plain_row}
use Rattle.lucid_cert_rules.specs.declared.read_rows.Row.{Row}
use Rattle.lucid_cert_rules.proofs.OneText.{no_row_here}
use Rattle.lucid_cert_rules.proofs.Added.{judgment_adds, context_adds, context_cannot}
use Rattle.lucid_cert_rules.proofs.read.WhyLinesLines.add.Goals as goal

pub returns-then-not-is_empty : goal.returns-then-not-is_empty
returns-then-not-is_empty c =
    let P : Option Row → Type 0 = λ o. IsRowOf c.args.line.now (option_map plain_row o) in
    let f = subst P (c.in-Some-Context.is ∙ ap Some c.in-Some-Context.field-0-is) c.in_ok-row.ensures in
    let s = c.args.self.now in
    context_cannot c.one_value.ensures s.contexts.items s.judgments.items s.judgments.len c.in-Some-Context.row c.args.line.now s.judgments.ok.0
    (sym c.is_empty.ensures ∙ c.if-not-is_empty.true) c.requires f.0 f.1

pub returns-in-None : goal.returns-in-None
returns-in-None c =
    let P : Option Row → Type 0 = λ o. IsRowOf c.args.line.now (option_map plain_row o) in
    no_row_here c.one_value.ensures (why_rows (why_of c.args.self.now)) c.args.line.now c.requires (subst P c.in-None.is c.in_ok-row.ensures)

pub returns-in_ok-push_row-in-Some-Judgment : goal.returns-in_ok-push_row-in-Some-Judgment
returns-in_ok-push_row-in-Some-Judgment c =
    let P : Option Row → Type 0 = λ o. IsRowOf c.args.line.now (option_map plain_row o) in
    let f = subst P (c.in-Some-Judgment.is ∙ ap Some c.in-Some-Judgment.field-0-is) c.in_ok-row.ensures in
    let s = c.args.self.now in
    judgment_adds s.contexts.items s.judgments.items c.push_row.new.rows.items c.in-Some-Judgment.row c.args.line.now c.requires
    c.in_ok-push_row-in-Some-Judgment.ensures f.0 f.1

pub returns-in_ok-push_row-in-Some-Context : goal.returns-in_ok-push_row-in-Some-Context
returns-in_ok-push_row-in-Some-Context c =
    let P : Option Row → Type 0 = λ o. IsRowOf c.args.line.now (option_map plain_row o) in
    let f = subst P (c.in-Some-Context.is ∙ ap Some c.in-Some-Context.field-0-is) c.in_ok-row.ensures in
    let s = c.args.self.now in
    context_adds s.contexts.items c.push_row-in-Some-Context.new.rows.items s.judgments.items s.judgments.len c.in-Some-Context.row c.args.line.now
    s.judgments.ok.0
    (sym c.is_empty.ensures ∙ c.if-not-is_empty.false) c.requires c.in_ok-push_row-in-Some-Context.ensures f.0 f.1
