use Rattle.lucid_columns.proofs.Faultless.{have_no_fault}
use Rattle.lucid_columns.proofs.laws.columns_have_no_fault.Goals as goal

pub returns : goal.returns
returns c = have_no_fault
