use Rattle.lucid_search.proofs.Common.{ℕ, List, Option, Some, IsSome, cond, ◌==◌, ap, refl, ◌∙◌, option_and_then, lookup, number_in, same_site}
use Rattle.lucid_lists.proofs.Options.{on_err}
use Rattle.lucid_search.proofs.NoteLemmas.{noted_from, same_from}
use Rattle.lucid_search.proofs.add_note.Goals as goal

-- the number at a key of a site's pairs, if there is one
abbrev numbers_at : ℕ → Option (List (ℕ × ℕ)) → Option ℕ
numbers_at k o = option_and_then (λ pairs. number_in pairs k) o

pub returns-in_err-set-clause-err : goal.returns-in_err-set-clause-err
returns-in_err-set-clause-err c =
    let written = c.get_mut.follows.holds c.set.new.self in
    let had : IsSome (lookup (same_site c.args.site) c.args.sites.now.entries) = rw (← c.in-Some.ensures.value) refl in
    on_err c.from_residual.result (same_from c.args.sites.now.entries (c.get_mut.follows.lender c.set.new.self).entries c.args.site c.set.new.self
    (λ q. (written.3 had).0 q)
    (λ k. ap (λ es. number_in es k) c.in_err-set.ensures.err ∙ ap (numbers_at k) c.in-Some.ensures.value))

pub returns-in-Some-clause-ok : goal.returns-in-Some-clause-ok
returns-in-Some-clause-ok c =
    let written = c.get_mut.follows.holds c.set.new.self in
    let had : IsSome (lookup (same_site c.args.site) c.args.sites.now.entries) = rw (← c.in-Some.ensures.value) refl in
    noted_from c.args.sites.now.entries (c.get_mut.follows.lender c.set.new.self).entries c.args.site c.set.new.self
    (λ q. (written.3 had).0 q) c.args.key c.args.number
    (λ k. c.in_ok-set.ensures.ok k ∙ ap (cond (k == c.args.key) (Some c.args.number)) (ap (numbers_at k) c.in-Some.ensures.value))

pub returns-clause-ok : goal.returns-clause-ok
returns-clause-ok c =
    noted_from c.args.sites.now.entries c.insert.new.self.entries c.args.site c.set-2.new.self
    (λ q. c.in_ok-insert.ensures.updates.0 q ∙ ap (λ m. cond (same_site c.args.site q) (Some c.set-2.new.self) (lookup (same_site q) m.entries))
    c.get_mut.follows.holds-at-none)
    c.args.key c.args.number
    (λ k. c.in_ok-set-2.ensures.ok k ∙ ap (cond (k == c.args.key) (Some c.args.number))
    (ap (λ es. number_in es k) c.make-notes.ensures ∙ ap (numbers_at k) c.in_default.ensures.value))
