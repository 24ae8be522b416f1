-- A mark is the longest token, or none stands.
use Rattle.lucid_scan.proofs.Lead.{other_lead}
use Rattle.lucid_scan.proofs.Longest.{mark_high, mark_stands, no_list, nothing_stands}
use Rattle.lucid_scan.proofs.front.mark_token.Goals as goal

pub returns-in_err-n-clause-none : goal.returns-in_err-n-clause-none
returns-in_err-n-clause-none c =
    rw c.from_residual.ensures
    (nothing_stands c.args.bytes.now (mark_high c.args.bytes.now c.requires) c.in_err-n.ensures.none
    (no_list c.args.bytes.now (other_lead c.args.bytes.now c.requires)))

pub returns-clause-some : goal.returns-clause-some
returns-clause-some c = mark_stands c.args.bytes.now c.in_ok-n.n (mark_high c.args.bytes.now c.requires) c.in_ok-n.ensures.some
