use Rattle.lucid_flat.proofs.Common.{length, ap, arith, length-map, plain, scope_row, input_row, node_row, name_row, place_row}
use Rattle.lucid_flat.proofs.TextMade.{lines_of, fits_of, constant_lines, constant_fits, slice_tail, text_from, others_fit, inner_fit, rows_fit}
use Rattle.lucid_flat.proofs.show.text_of.Goals as goal

pub returns-clause-text : goal.returns-clause-text
returns-clause-text c =
    text_from c.args.table.now _ _ _ _ _ _ _ _ c.in_ok-text.ensures.items
    (lines_of _ _ scope_row _ _ (slice_tail _ _ c.items.ensures.value) c.in_ok-put_lines.ensures.lines)
    (lines_of _ _ input_row _ _ c.items-2.ensures c.in_ok-put_lines-2.ensures.lines)
    (constant_lines _ _ _ _ c.items-3.ensures.value c.in_ok-put_lines-3.ensures.lines)
    (lines_of _ _ node_row _ _ c.items-4.ensures.value c.in_ok-put_lines-4.ensures.lines)
    (lines_of _ _ name_row _ _ c.items-5.ensures.value c.in_ok-put_lines-5.ensures.lines)
    (lines_of _ _ place_row _ _ c.items-6.ensures.value c.in_ok-put_lines-6.ensures.lines) c.in_ok-put_root.ensures.line

pub returns-clause-has : goal.returns-clause-has
returns-clause-has c = record {
  root = c.requires.first;
  rows =
      rows_fit _ _ _ _ _ _ _ (inner_fit _ c.requires.only (fits_of scope_row _ _ (slice_tail _ _ c.items.ensures.value) c.in_ok-put_lines.ensures.fits))
      (others_fit input_row (λ _. tt) _ (fits_of input_row _ _ c.items-2.ensures c.in_ok-put_lines-2.ensures.fits))
      (constant_fits _ _ c.items-3.ensures.value c.in_ok-put_lines-3.ensures.fits)
      (others_fit node_row (λ _. tt) _ (fits_of node_row _ _ c.items-4.ensures.value c.in_ok-put_lines-4.ensures.fits))
      (others_fit name_row (λ _. tt) _ (fits_of name_row _ _ c.items-5.ensures.value c.in_ok-put_lines-5.ensures.fits))
      (others_fit place_row (λ _. tt) _ (fits_of place_row _ _ c.items-6.ensures.value c.in_ok-put_lines-6.ensures.fits)) c.put_root.ensures.fits;
  scopes = c.items.ensures.few;
  constants = omega (arith, ap length c.items-3.ensures.value, length-map c.items-3.result.now plain, c.items-3.ensures.few);
  nodes = c.items-4.ensures.few;
  names = c.items-5.ensures.few;
  places = c.items-6.ensures.few;
}
