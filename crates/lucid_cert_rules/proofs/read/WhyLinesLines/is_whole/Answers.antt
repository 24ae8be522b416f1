use Rattle.lucid_cert_rules.proofs.Added.{whole_by}
use Rattle.lucid_cert_rules.proofs.read.WhyLinesLines.is_whole.Goals as goal

pub returns : goal.returns
returns c = whole_by c.one_value.ensures c.args.self.now c.is_empty.result c.args.self.now.judgments.len c.args.self.now.judgments.ok.0 c.is_empty.ensures
    c.requires
