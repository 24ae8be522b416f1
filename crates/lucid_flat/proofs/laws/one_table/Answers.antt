use Rattle.lucid_flat.proofs.OneTable.{one_table}
use Rattle.lucid_flat.proofs.laws.one_table.Goals as goal

pub returns : goal.returns
returns c = one_table c.one_value.ensures
