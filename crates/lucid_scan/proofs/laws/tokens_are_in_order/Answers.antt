use Rattle.lucid_scan.proofs.Common.{length, arith}
use Rattle.lucid_scan.proofs.Spans.{in_order}
use Rattle.lucid_scan.proofs.laws.tokens_are_in_order.Goals as goal

pub returns : goal.returns
returns c source ts h = in_order h (length source) (omega arith)
