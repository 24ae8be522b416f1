use Rattle.lucid_cert_rules.proofs.Common.{◌≡◌, ◌++◌, map, take, AllByRecursion, flat_map, MayShow, RowFits, line_of}
use Rattle.lucid_cert_rules.proofs.put.put_lines.Given as goal

abbrev pub invariant-loop-row : goal.invariant-loop-row
invariant-loop-row g l = record {
  lines : l.to.items ≡ l.fn.to.items ++ flat_map line_of (map g.T.Line.why_row (take l.row-index l.rows));
  fits : AllByRecursion (λ r. MayShow r → RowFits r) (map g.T.Line.why_row (take l.row-index l.rows));
}
