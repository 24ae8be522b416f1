use Rattle.lucid_cert_rules.proofs.OneText.{why_lines_are}
use Rattle.lucid_cert_rules.proofs.read.WhyLinesLines.lines_of_texts.Goals as goal

pub returns : goal.returns
returns c = why_lines_are
