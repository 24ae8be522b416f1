use Rattle.lucid_search.proofs.Common.{Some, None, Site, number_in, number_of_site}
use Rattle.lucid_search.proofs.NoteLemmas.{best_by, none_by, found_at}
use Rattle.lucid_search.proofs.Positions.best.Goals as goal

pub returns-in-Some-clause-best : goal.returns-in-Some-clause-best
returns-in-Some-clause-best c =
    let site : Site = record { node = c.args.node; tag = c.args.tag } in
    let same = found_at c.self.inside.sites.entries site (Some c.in-Some.notes.now) c.in-Some.ensures.value in
    rw (← c.self.view_is) (best_by (number_of_site c.self.inside.sites.entries site) (number_in c.in-Some.notes.now) c.args.key c.best.result same
    c.best.ensures.best)

pub returns-in-Some-clause-none : goal.returns-in-Some-clause-none
returns-in-Some-clause-none c =
    let site : Site = record { node = c.args.node; tag = c.args.tag } in
    let same = found_at c.self.inside.sites.entries site (Some c.in-Some.notes.now) c.in-Some.ensures.value in
    rw (← c.self.view_is) (none_by (number_of_site c.self.inside.sites.entries site) (number_in c.in-Some.notes.now) c.args.key c.best.result same
    c.best.ensures.none)

pub returns-in-None-clause-none : goal.returns-in-None-clause-none
returns-in-None-clause-none c = rw (← c.self.view_is)
    (λ q low. found_at c.self.inside.sites.entries (record { node = c.args.node; tag = c.args.tag }) None c.in-None.ensures.value q)
