use Rattle.lucid_flat.proofs.Common.{◌≡◌, ◌++◌, map, take, AllByRecursion, flat_map, RowFits, IsNoRoot, line_of}
use Rattle.lucid_flat.proofs.lines.put_lines.Given as goal

abbrev pub invariant-loop-row : goal.invariant-loop-row
invariant-loop-row g l = record {
  lines : l.to.items ≡ l.fn.to.items ++ flat_map line_of (map g.T.Line.flat_row (take l.row-index l.rows));
  fits : AllByRecursion (λ r. IsNoRoot r → RowFits r) (map g.T.Line.flat_row (take l.row-index l.rows));
}
