-- A mark or a list is the longest token, or none stands.
use Rattle.lucid_scan.proofs.Longest.{bracket_lead, mark_stands, list_stands, nothing_stands}
use Rattle.lucid_scan.proofs.front.bracket_token.Goals as goal

pub returns-in-Some-clause-some : goal.returns-in-Some-clause-some
returns-in-Some-clause-some c = mark_stands c.args.bytes.now c.in-Some.n (bracket_lead c.args.bytes.now c.requires) c.in-Some.ensures.some

pub returns-in-Some-list-clause-some : goal.returns-in-Some-list-clause-some
returns-in-Some-list-clause-some c =
    let front = rw c.in-Some-list.is at c.in_ok-list.ensures in
    list_stands c.args.bytes.now c.in-Some-list.n (bracket_lead c.args.bytes.now c.requires) c.in_default.ensures.none front
    (λ m other. c.one_list_front.ensures c.args.bytes.now m c.in-Some-list.n other front)

pub returns-in-None-clause-none : goal.returns-in-None-clause-none
returns-in-None-clause-none c =
    nothing_stands c.args.bytes.now (bracket_lead c.args.bytes.now c.requires) c.in_default.ensures.none (rw c.in-None.is at c.in_ok-list.ensures)
