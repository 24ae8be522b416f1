use Rattle.lucid_columns.proofs.Common.{length}
use Rattle.lucid_columns.proofs.columns.+beside.Given as goal

abbrev pub decreases-beside : goal.decreases-beside
decreases-beside l = length l.others.now
