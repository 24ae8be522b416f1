use Rattle.lucid_cert_rules.proofs.TextMade.{text_made, rows_fit}
use Rattle.lucid_cert_rules.proofs.show.text_of.Goals as goal

pub returns-clause-text : goal.returns-clause-text
returns-clause-text c =
    text_made c.args.why.now c.items.result.now c.items-2.result.now c.new-text.result.items c.put_lines.new.to.items c.put_lines-2.new.to.items
    c.new-text.ensures.items c.items.ensures c.items-2.ensures
    c.in_ok-put_lines.ensures.lines c.in_ok-put_lines-2.ensures.lines

pub returns-clause-fits : goal.returns-clause-fits
returns-clause-fits c =
    rows_fit c.args.why.now c.items.result.now c.items-2.result.now c.requires c.items.ensures c.items-2.ensures c.in_ok-put_lines.ensures.fits
    c.in_ok-put_lines-2.ensures.fits
