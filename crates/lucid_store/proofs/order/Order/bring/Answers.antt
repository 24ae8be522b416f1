use Rattle.std.proofs.Common.{◌≡◌, ◌<◌, IfSome, Some, sym, ap, subst, ◌∙◌, arith}
use Rattle.futures.specs.LinkedLists.{items, without}
use Rattle.lucid_store.specs.Touches.{Touches, touched_at}
use Rattle.lucid_store.proofs.OrderLemmas.{brought_sound, listed_in, order_in}
use Rattle.lucid_store.proofs.PlaceLemmas.{touched_latest}
use Rattle.lucid_store.proofs.order.Order.bring.Goals as goal

pub invariant_of-self : goal.invariant_of-self
invariant_of-self c =
    let low : c.args.place < c.self.inside.count = subst (λ (t : Touches). c.args.place < t.count) (sym c.self.view_is) c.requires in
    let listed = listed_in c.self.inside.places c.self.inside.count c.self.inside.latest c.args.place c.self.invariant low in
    let left : items c.unlink.new.self 0 ≡ without c.args.place (items c.self.inside.places 0) =
    subst (λ r. IfSome r (λ list. items c.unlink.new.self list ≡ without c.args.place (items c.self.inside.places list)))
    (c.unlink.ensures.value ∙ listed) c.unlink.ensures.left in
    brought_sound c.self.inside.places c.unlink.new.self c.push_back.new.self c.self.inside.count c.self.inside.latest c.args.place c.self.invariant low left
    c.unlink.ensures.moves c.push_back.ensures.last c.push_back.ensures.moves

pub returns-clause-order : goal.returns-clause-order
returns-clause-order c =
    let low : c.args.place < c.self.inside.count = subst (λ (t : Touches). c.args.place < t.count) (sym c.self.view_is) c.requires in
    let listed = listed_in c.self.inside.places c.self.inside.count c.self.inside.latest c.args.place c.self.invariant low in
    let left : items c.unlink.new.self 0 ≡ without c.args.place (items c.self.inside.places 0) =
    subst (λ r. IfSome r (λ list. items c.unlink.new.self list ≡ without c.args.place (items c.self.inside.places list)))
    (c.unlink.ensures.value ∙ listed) c.unlink.ensures.left in
    (brought_sound c.self.inside.places c.unlink.new.self c.push_back.new.self c.self.inside.count c.self.inside.latest c.args.place c.self.invariant low left
    c.unlink.ensures.moves c.push_back.ensures.last c.push_back.ensures.moves).order

pub returns-then-place-self-clause-touched : goal.returns-then-place-self-clause-touched
returns-then-place-self-clause-touched c =
    let low : c.args.place < c.self.inside.count = subst (λ (t : Touches). c.args.place < t.count) (sym c.self.view_is) c.requires in
    let last = c.self.invariant.last_is (omega (arith, low)) ∙ ap Some (sym c.if-place-self.true) in
    subst (λ (t : Touches). t ≡ touched_at c.args.place t) c.self.view_is
    (touched_latest c.args.place (order_in c.self.inside.places c.self.inside.count) c.self.invariant.order last low)
