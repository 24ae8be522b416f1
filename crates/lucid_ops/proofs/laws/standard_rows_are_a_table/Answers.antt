use Rattle.lucid_ops.proofs.OperatorRows.{found_by_row}
use Rattle.lucid_ops.proofs.laws.standard_rows_are_a_table.Goals as goal

pub returns-clause-found : goal.returns-clause-found
returns-clause-found c = found_by_row
