use Rattle.lucid_equations.proofs.Common.{drop, ◌↔◌, sizes, PlacesAreInRange}
use Rattle.lucid_equations.proofs.range.are_places_in_range.Given as goal

-- all rows are in range where those from this one on are
abbrev pub invariant-loop-row : goal.invariant-loop-row
invariant-loop-row l = PlacesAreInRange (sizes l.table) (drop l.row-index l.rows) ↔ PlacesAreInRange (sizes l.table) l.rows
