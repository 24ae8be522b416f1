use Rattle.lucid_value.proofs.Common.{◌≡◌, ◌∙◌, ap, sym, arith, map, and_parts, Items, item, weights, nestings, may_be_held, well_formed, all_well_formed, plain, onto, joined}
use Rattle.lucid_value.proofs.Joined.{taken, onto_joined, onto_light, onto_flat, onto_formed, weights_joined, nestings_joined, formed_joined}
use Rattle.lucid_value.specs.contracts.List.{the_view}
use Rattle.lucid_value.proofs.lists.join.Goals as goal

pub loop-item-init : goal.loop-item-init
loop-item-init c =
    let us = map (λ v. plain v.now) c.in_ok-items.items.items in
    let ws : Items = the_view c.right.inside in
    let e : onto us ws ≡ joined c.args.left.now ws = sym (onto_joined us ws) ∙ ap (λ vs. joined vs ws) c.in_ok-items.ensures in
    record {
      same = e;
      light = rw e (omega (arith, weights_joined c.args.left.now ws, ap weights c.right.view_is));
      flat = rw e (omega (arith, nestings_joined c.args.left.now ws, ap nestings c.right.view_is));
      formed = rw e (formed_joined c.args.left.now ws c.keeps_rules.ensures.formed c.right.invariant.formed);
    }

pub with-requires-clause-held : goal.with-requires-clause-held
with-requires-clause-held c =
    let s = taken (λ v. plain v.now) c.loop-item.items.items c.pop.new.self.items c.in-Some.item c.loop-item.made c.in-Some.ensures.items in
    let f = onto_formed (map (λ v. plain v.now) c.pop.new.self.items) (item (plain c.in-Some.item.now) c.loop-item.made)
    (rw s at c.loop-item.invariant.formed) in
    rw c.in_ok-copy.ensures (and_parts (may_be_held (plain c.in-Some.item.now)) (well_formed (plain c.in-Some.item.now))
    (and_parts _ (all_well_formed c.loop-item.made) f).0).0

pub with-requires-clause-light : goal.with-requires-clause-light
with-requires-clause-light c =
    let s = taken (λ v. plain v.now) c.loop-item.items.items c.pop.new.self.items c.in-Some.item c.loop-item.made c.in-Some.ensures.items in
    rw c.in_ok-copy.ensures
    (omega (
      arith,
      rw s at c.loop-item.invariant.light,
      onto_light (map (λ v. plain v.now) c.pop.new.self.items)
          (item (plain c.in-Some.item.now) c.loop-item.made),
    ))

pub with-requires-clause-flat : goal.with-requires-clause-flat
with-requires-clause-flat c =
    let s = taken (λ v. plain v.now) c.loop-item.items.items c.pop.new.self.items c.in-Some.item c.loop-item.made c.in-Some.ensures.items in
    rw c.in_ok-copy.ensures
    (omega (
      arith,
      rw s at c.loop-item.invariant.flat,
      onto_flat (map (λ v. plain v.now) c.pop.new.self.items)
          (item (plain c.in-Some.item.now) c.loop-item.made),
    ))

pub loop-item-preserved : goal.loop-item-preserved
loop-item-preserved c =
    let s = taken (λ v. plain v.now) c.loop-item.items.items c.pop.new.self.items c.in-Some.item c.loop-item.made c.in-Some.ensures.items in
    let m : c.in_ok-made.made ≡ item (plain c.in-Some.item.now) c.loop-item.made = c.in_ok-made.ensures
    ∙ ap (λ v. item (plain v) c.loop-item.made) c.in_ok-copy.ensures in
    let t = ap (onto (map (λ v. plain v.now) c.pop.new.self.items)) m ∙ sym s in
    record {
      same = t ∙ c.loop-item.invariant.same;
      light = rw t c.loop-item.invariant.light;
      flat = rw t c.loop-item.invariant.flat;
      formed = rw t c.loop-item.invariant.formed;
    }
