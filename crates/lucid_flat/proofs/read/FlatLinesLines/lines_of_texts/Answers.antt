use Rattle.lucid_flat.proofs.WholeLines.{table_lines}
use Rattle.lucid_flat.proofs.read.FlatLinesLines.lines_of_texts.Goals as goal

pub returns : goal.returns
returns c = table_lines
