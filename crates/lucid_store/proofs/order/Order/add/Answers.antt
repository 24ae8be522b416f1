use Rattle.std.proofs.Common.{◌+◌, sym, ◌∙◌, arith}
use Rattle.std.specs.Prelude.{nat_lt}
use Rattle.std.proofs.lemmas.Bool.{cond-false, le-ltb}
use Rattle.futures.specs.LinkedLists.{items}
use Rattle.lucid_store.proofs.PlaceLemmas.{next_to_end}
use Rattle.lucid_store.proofs.OrderLemmas.{added_sound}
use Rattle.lucid_store.proofs.order.Order.add.Goals as goal

pub invariant_of-self : goal.invariant_of-self
invariant_of-self c = added_sound c.self.inside.places c.push_back.new.self c.self.inside.count c.self.inside.latest c.self.invariant c.push_back.ensures.last
    c.push_back.ensures.moves

pub returns-clause-order : goal.returns-clause-order
returns-clause-order c = (added_sound c.self.inside.places c.push_back.new.self c.self.inside.count c.self.inside.latest c.self.invariant
    c.push_back.ensures.last c.push_back.ensures.moves).order

pub returns-clause-touched : goal.returns-clause-touched
returns-clause-touched c =
    let n = c.self.inside.count in
    let places = c.push_back.ensures.last ∙ sym (next_to_end n (items c.self.inside.places 0) c.self.invariant.order) in
    let count = sym (cond-false (nat_lt n n) n (n + 1) (le-ltb n n (omega arith))) in
    rw (← c.self.view_is) (λ i. record { places = places i; count = count i; room = c.push_back.ensures.moves.limit i })
