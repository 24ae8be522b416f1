-- A mark has at most two bytes.
use Rattle.lucid_scan.proofs.Common.{both_ways}
use Rattle.lucid_scan.proofs.Longest.{two_marks, one_mark, no_mark}
use Rattle.lucid_scan.proofs.front.mark_len.Goals as goal

pub returns-then-has_mark-clause-some : goal.returns-then-has_mark-clause-some
returns-then-has_mark-clause-some c = two_marks c.args.bytes.now (c.has_mark.ensures.0 c.if-has_mark.true)

pub returns-then-has_mark-2-clause-some : goal.returns-then-has_mark-2-clause-some
returns-then-has_mark-2-clause-some c =
    one_mark c.args.bytes.now (λ two. both_ways c.has_mark.result c.if-has_mark.false (c.has_mark.ensures.1 two)) (c.has_mark-2.ensures.0 c.if-has_mark-2.true)

pub returns-clause-none : goal.returns-clause-none
returns-clause-none c =
    no_mark c.args.bytes.now
    (λ two. both_ways c.has_mark.result c.if-has_mark.false (c.has_mark.ensures.1 two))
    (λ one. both_ways c.has_mark-2.result c.if-has_mark-2.false (c.has_mark-2.ensures.1 one))
