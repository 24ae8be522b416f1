use Rattle.lucid_columns.proofs.Spaces.{are_spaces}
use Rattle.lucid_columns.proofs.laws.columns_are_spaces.Goals as goal

pub returns : goal.returns
returns c = are_spaces
