use Rattle.lucid_store.proofs.Common.{◌≡◌, ℕ, List, ◌-◌, length, take, ap, ◌∙◌, subst, arith}
use Rattle.std.specs.Prelude.{min}
use Rattle.lucid_store.specs.Ages.{IsLastOver}
use Rattle.lucid_store.proofs.AgeLemmas.{all-there, over_there}
use Rattle.lucid_store.proofs.ages.Ages.last_over.Goals as goal

pub returns : goal.returns
returns c =
    let ws = c.self.inside.written.items in
    let count = c.self.inside.count in
    let all = all-there ws c.args.self.now count c.self.view_is c.self.invariant.0 in
    let few = c.requires in
    let len : c.len.result ≡ length ws = omega arith in
    subst (λ (l : List ℕ). IsLastOver c.args.limit l c.args.end c.last_over.result) c.self.view_is
    (over_there ws (count - length ws) c.args.limit c.args.end c.min-end.result
    (c.min-end.ensures ∙ ap (min c.args.end) len) (omega (arith, few, all)) c.last_over.result
    (subst (λ (l : List ℕ). IsLastOver c.args.limit (take c.min-end.result l) (length (take c.min-end.result l)) c.last_over.result) c.deref.ensures.value
    c.last_over.ensures))
