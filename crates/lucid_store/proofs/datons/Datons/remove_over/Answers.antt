use Rattle.lucid_store.proofs.Common.{◌≤◌, ◌+◌, length, None, sym, subst, ◌∙◌, arith, AllWithin, ages_of}
use Rattle.lucid_store.specs.Ages.{IsOverAt, IsLastOver}
use Rattle.lucid_store.proofs.Besides.{ages_seen, joined_within, last_goes, all_within, length-beside}
use Rattle.lucid_store.proofs.datons.Datons.remove_over.Goals as goal

pub last_over-requires : goal.last_over-requires
last_over-requires c =
    let es = c.self-in-loop-index.inside.values.entries in
    let ages = c.self-in-loop-index.inside.ages in
    let len = length-beside es ages in
    let inside : c.loop-index.end ≤ length c.loop-index.self = c.loop-index.invariant.inside in
    let end : c.loop-index.end ≤ length es = subst (λ n. c.loop-index.end ≤ n) len (rw c.self-in-loop-index.view_is inside) in
    let same = c.self-in-loop-index.invariant.0 in
    omega (arith, end, same)

pub remove-requires : goal.remove-requires
remove-requires c =
    let found : IsOverAt c.args.limit c.self-in-loop-index.inside.ages c.loop-index.end c.in-Some.index =
    subst (λ o. IsLastOver c.args.limit c.self-in-loop-index.inside.ages c.loop-index.end o) c.in-Some.is c.last_over.ensures in
    let before = found.before in
    let inside = c.loop-index.invariant.inside in
    omega (arith, before, inside)

pub loop-index-smaller : goal.loop-index-smaller
loop-index-smaller c =
    let found : IsOverAt c.args.limit c.self-in-loop-index.inside.ages c.loop-index.end c.in-Some.index =
    subst (λ o. IsLastOver c.args.limit c.self-in-loop-index.inside.ages c.loop-index.end o) c.in-Some.is c.last_over.ensures in
    found.before

pub loop-index-preserved : goal.loop-index-preserved
loop-index-preserved c =
    let seen = ages_seen c.self-in-loop-index.inside.values.entries c.self-in-loop-index.inside.ages c.loop-index.self c.self-in-loop-index.invariant.0
    c.self-in-loop-index.view_is in
    let found : IsOverAt c.args.limit (ages_of c.loop-index.self) c.loop-index.end c.in-Some.index =
    subst (λ o. IsLastOver c.args.limit (ages_of c.loop-index.self) c.loop-index.end o) c.in-Some.is
    (subst (λ l. IsLastOver c.args.limit l c.loop-index.end c.last_over.result) seen c.last_over.ensures) in
    let before = found.before in
    let count = c.remove.ensures.count in
    let few = c.loop-index.invariant.count in
    let low = c.loop-index.invariant.inside in
    record {
      each = λ q. last_goes c.args.limit c.loop-index.end c.in-Some.index c.loop-index.self c.remove.new.self c.remove.result found c.remove.ensures.place
          c.remove.ensures.entries q ∙ c.loop-index.invariant.each q;
      later = c.remove.ensures.later c.args.limit (joined_within c.args.limit (c.in-Some.index + 1) c.loop-index.end (length c.loop-index.self)
          (ages_of c.loop-index.self) found.later c.loop-index.invariant.later);
      inside = omega (arith, before, count, low);
      count = omega (arith, count, few);
    }

pub returns-clause-each : goal.returns-clause-each
returns-clause-each c =
    let seen = ages_seen c.self-in-loop-index.inside.values.entries c.self-in-loop-index.inside.ages c.loop-index.self c.self-in-loop-index.invariant.0
    c.self-in-loop-index.view_is in
    let none : AllWithin (λ age. age ≤ c.args.limit) (ages_of c.loop-index.self) 0 c.loop-index.end =
    subst (λ l. IsLastOver c.args.limit l c.loop-index.end None) seen (subst (λ o. IsLastOver c.args.limit c.self-in-loop-index.inside.ages c.loop-index.end o)
    c.in_default.is c.last_over.ensures) in
    λ q. sym (all_within c.args.limit q c.loop-index.self (joined_within c.args.limit 0 c.loop-index.end (length c.loop-index.self) (ages_of c.loop-index.self)
    none c.loop-index.invariant.later)) ∙ c.loop-index.invariant.each q
