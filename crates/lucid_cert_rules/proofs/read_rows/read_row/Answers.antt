use Rattle.lucid_cert_rules.proofs.Common.{Option, sym, ap, ◌∙◌, subst, bytes_eq, WhyRow, IsRowOf}
use Rattle.lucid_cert_rules.proofs.RowLemmas.{no_blank, context_is_row}
use Rattle.lucid_cert_rules.proofs.read_rows.read_row.Goals as goal

pub returns-in_default : goal.returns-in_default
returns-in_default c = no_blank _ c.in_default.ensures

pub returns : goal.returns
returns c =
    let P : Option WhyRow → Type 0 = IsRowOf c.args.line.now in
    subst P (sym c.of_context.ensures)
    (context_is_row _ _ _ c.read_context.result c.in-Some.ensures.0 c.in-Some.ensures.1
    (sym (c.if-eq.ensures ∙ ap (bytes_eq c.in-Some.word.now) c.as_slice.ensures)) c.read_context.ensures)
