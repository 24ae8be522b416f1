use Rattle.lucid_equations.proofs.Common.{drop, ◌↔◌, sizes, NamesAreInRange}
use Rattle.lucid_equations.proofs.range.are_names_in_range.Given as goal

-- all rows are in range where those from this one on are
abbrev pub invariant-loop-row : goal.invariant-loop-row
invariant-loop-row l = NamesAreInRange (sizes l.table) (drop l.row-index l.rows) ↔ NamesAreInRange (sizes l.table) l.rows
