-- With no depth left nothing more is found.
use Rattle.lucid_parse.proofs.Common.{sym, ◌∙◌, ap, reverse, take, search_from}
use Rattle.lucid_parse.proofs.Deep.{search_from-over}
use Rattle.lucid_parse.proofs.depth.least_at.Goals as goal

pub returns-in_default : goal.returns-in_default
returns-in_default g c =
    let e = search_from-over (reverse (take c.loop-i.i c.args.items.now)) c.loop-i.best in
    let none = rw c.in_default.is at c.pop.ensures in
    sym e ∙ ap (λ ds. search_from (reverse (take c.loop-i.i c.args.items.now)) ds c.loop-i.best) (sym none.0) ∙ c.loop-i.invariant
