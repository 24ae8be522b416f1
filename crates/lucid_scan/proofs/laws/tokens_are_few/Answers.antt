use Rattle.lucid_scan.proofs.Spans.{few}
use Rattle.lucid_scan.proofs.laws.tokens_are_few.Goals as goal

pub returns : goal.returns
returns c source ts h = few h
