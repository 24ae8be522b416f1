use Rattle.std.proofs.Common.{◌-◌, sym, subst}
use Rattle.lucid_store.specs.Touches.{Touches, IsFirstGone}
use Rattle.lucid_store.specs.Ordered.{IsFirstPlace}
use Rattle.lucid_store.proofs.OrderLemmas.{listed_in, order_in, first_within, left_list, only_sound, only_gone, last_listed, first_has_room, others_sound, others_gone}
use Rattle.lucid_store.proofs.order.Order.remove_first.Goals as goal

pub invariant_of-self : goal.invariant_of-self
invariant_of-self c =
    let first : IsFirstPlace c.args.place (order_in c.self.inside.places c.self.inside.count) =
    subst (λ (t : Touches). IsFirstPlace c.args.place t) (sym c.self.view_is) c.requires in
    let low = first_within c.args.place (order_in c.self.inside.places c.self.inside.count) c.self.invariant.order first in
    let left = left_list c.self.inside.places c.unlink.new.self c.args.place c.unlink.result
    (listed_in c.self.inside.places c.self.inside.count c.self.inside.latest c.args.place c.self.invariant low) c.unlink.ensures.value c.unlink.ensures.left in
    only_sound c.self.inside.places c.unlink.new.self c.self.inside.count c.self.inside.latest c.args.place c.self.invariant first left c.unlink.ensures.moves
    c.if-place-self.true

pub returns-then-place-self-clause-gone : goal.returns-then-place-self-clause-gone
returns-then-place-self-clause-gone c =
    let first : IsFirstPlace c.args.place (order_in c.self.inside.places c.self.inside.count) =
    subst (λ (t : Touches). IsFirstPlace c.args.place t) (sym c.self.view_is) c.requires in
    let low = first_within c.args.place (order_in c.self.inside.places c.self.inside.count) c.self.invariant.order first in
    let left = left_list c.self.inside.places c.unlink.new.self c.args.place c.unlink.result
    (listed_in c.self.inside.places c.self.inside.count c.self.inside.latest c.args.place c.self.invariant low) c.unlink.ensures.value c.unlink.ensures.left in
    subst (λ (t : Touches). IsFirstGone c.args.place t (order_in c.unlink.new.self (c.self.inside.count - 1))) c.self.view_is
    (only_gone c.self.inside.places c.unlink.new.self c.self.inside.count c.self.inside.latest c.args.place c.self.invariant first left c.unlink.ensures.moves
    c.if-place-self.true)

pub returns-then-place-self-clause-order : goal.returns-then-place-self-clause-order
returns-then-place-self-clause-order c = (invariant_of-self c).order

pub push_back-requires-clause-key_in : goal.push_back-requires-clause-key_in
push_back-requires-clause-key_in c =
    let first : IsFirstPlace c.args.place (order_in c.self.inside.places c.self.inside.count) =
    subst (λ (t : Touches). IsFirstPlace c.args.place t) (sym c.self.view_is) c.requires in
    let low = first_within c.args.place (order_in c.self.inside.places c.self.inside.count) c.self.invariant.order first in
    let left = left_list c.self.inside.places c.unlink.new.self c.args.place c.unlink.result
    (listed_in c.self.inside.places c.self.inside.count c.self.inside.latest c.args.place c.self.invariant low) c.unlink.ensures.value c.unlink.ensures.left in
    let last = left_list c.unlink.new.self c.unlink-2.new.self (c.self.inside.count - 1) c.unlink-2.result
    (last_listed c.self.inside.places c.unlink.new.self c.self.inside.count c.self.inside.latest c.args.place c.self.invariant first left c.unlink.ensures.moves
    c.if-place-self.false) c.unlink-2.ensures.value c.unlink-2.ensures.left in
    first_has_room c.self.inside.places c.unlink.new.self c.self.inside.count c.self.inside.latest c.args.place c.self.invariant first left c.unlink.ensures.moves
    c.if-place-self.false c.unlink-2.new.self c.unlink-2.new.self last c.unlink-2.ensures.moves

pub invariant_of-self-2 : goal.invariant_of-self-2
invariant_of-self-2 c =
    let first : IsFirstPlace c.args.place (order_in c.self.inside.places c.self.inside.count) =
    subst (λ (t : Touches). IsFirstPlace c.args.place t) (sym c.self.view_is) c.requires in
    let low = first_within c.args.place (order_in c.self.inside.places c.self.inside.count) c.self.invariant.order first in
    let left = left_list c.self.inside.places c.unlink.new.self c.args.place c.unlink.result
    (listed_in c.self.inside.places c.self.inside.count c.self.inside.latest c.args.place c.self.invariant low) c.unlink.ensures.value c.unlink.ensures.left in
    let last = left_list c.unlink.new.self c.unlink-2.new.self (c.self.inside.count - 1) c.unlink-2.result
    (last_listed c.self.inside.places c.unlink.new.self c.self.inside.count c.self.inside.latest c.args.place c.self.invariant first left c.unlink.ensures.moves
    c.if-place-self.false) c.unlink-2.ensures.value c.unlink-2.ensures.left in
    others_sound c.self.inside.places c.unlink.new.self c.self.inside.count c.self.inside.latest c.args.place c.self.invariant first left c.unlink.ensures.moves
    c.if-place-self.false c.unlink-2.new.self c.push_back.new.self last c.unlink-2.ensures.moves c.push_back.ensures.last c.push_back.ensures.moves

pub returns-clause-gone : goal.returns-clause-gone
returns-clause-gone c =
    let first : IsFirstPlace c.args.place (order_in c.self.inside.places c.self.inside.count) =
    subst (λ (t : Touches). IsFirstPlace c.args.place t) (sym c.self.view_is) c.requires in
    let low = first_within c.args.place (order_in c.self.inside.places c.self.inside.count) c.self.invariant.order first in
    let left = left_list c.self.inside.places c.unlink.new.self c.args.place c.unlink.result
    (listed_in c.self.inside.places c.self.inside.count c.self.inside.latest c.args.place c.self.invariant low) c.unlink.ensures.value c.unlink.ensures.left in
    let last = left_list c.unlink.new.self c.unlink-2.new.self (c.self.inside.count - 1) c.unlink-2.result
    (last_listed c.self.inside.places c.unlink.new.self c.self.inside.count c.self.inside.latest c.args.place c.self.invariant first left c.unlink.ensures.moves
    c.if-place-self.false) c.unlink-2.ensures.value c.unlink-2.ensures.left in
    subst (λ (t : Touches). IsFirstGone c.args.place t (order_in c.push_back.new.self (c.self.inside.count - 1))) c.self.view_is
    (others_gone c.self.inside.places c.unlink.new.self c.self.inside.count c.self.inside.latest c.args.place c.self.invariant first left c.unlink.ensures.moves
    c.if-place-self.false c.unlink-2.new.self c.push_back.new.self last c.unlink-2.ensures.moves c.push_back.ensures.last c.push_back.ensures.moves)

pub returns-clause-order : goal.returns-clause-order
returns-clause-order c = (invariant_of-self-2 c).order
