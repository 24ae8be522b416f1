use Rattle.lucid_cert_rules.proofs.Common.{arith}
use Rattle.lucid_cert_rules.proofs.TextMade.{lines_more, fits_more}
use Rattle.lucid_cert_rules.proofs.put.put_lines.Goals as goal

pub loop-row-preserved : goal.loop-row-preserved
loop-row-preserved g c = record {
  lines = lines_more g.T.Line.why_row c.args.rows.now c.loop-row.row-index c.row-item.result c.args.to.now.items c.loop-row.to.items c.put.new.to.items
      (omega arith) c.row-item.is c.loop-row.invariant.lines c.in_ok-put.ensures.line;
  fits = fits_more g.T.Line.why_row c.args.rows.now c.loop-row.row-index c.row-item.result (omega arith) c.row-item.is c.loop-row.invariant.fits
      c.in_ok-put.ensures.fits;
}
