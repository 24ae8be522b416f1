-- All the digits are the longest token, or none stands.
use Rattle.lucid_scan.proofs.Common.{arith}
use Rattle.lucid_scan.proofs.Longest.{number_run, number_stands, number_none}
use Rattle.lucid_scan.proofs.front.number_token.Goals as goal

pub fits-requires : goal.fits-requires
fits-requires c = number_run c.args.bytes.now c.digits_len-n.result c.digits_len-n.ensures

pub returns-then-not-fits-clause-none : goal.returns-then-not-fits-clause-none
returns-then-not-fits-clause-none c =
    number_none c.args.bytes.now c.digits_len-n.result c.digits_len-n.ensures c.requires (λ small. let fit = c.fits.ensures.1 small in grind arith)

pub returns-clause-some : goal.returns-clause-some
returns-clause-some c = number_stands c.args.bytes.now c.digits_len-n.result c.digits_len-n.ensures c.requires (c.fits.ensures.0 (grind arith))
