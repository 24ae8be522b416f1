use Rattle.std.proofs.Common.{◌≡◌, true, arith}
use Rattle.lucid_explain_places.proofs.First.{first_no_room, first_stands, first_passed}
use Rattle.lucid_explain_places.proofs.candidates.if_standing.Goals as goal

pub returns-then-room-eq0-clause-first : goal.returns-then-room-eq0-clause-first
returns-then-room-eq0-clause-first c = λ these those f.
    first_no_room c.args.source.now c.args.at c.args.room c.args.candidate.now these those (omega arith) f

pub returns-then-branch-clause-first : goal.returns-then-branch-clause-first
returns-then-branch-clause-first c = λ these those f.
    first_stands c.args.source.now c.args.at c.args.room c.args.candidate.now these those (omega arith)
    (c.in_ok-may_stand.ensures.yes c.if-branch.true) f

pub returns-else-branch-clause-first : goal.returns-else-branch-clause-first
returns-else-branch-clause-first c = λ these those f.
    first_passed c.args.source.now c.args.at c.args.room c.args.candidate.now these those
    (λ may. let e : c.in_ok-may_stand.field-0 ≡ true = c.in_ok-may_stand.ensures.no may in cc) f
