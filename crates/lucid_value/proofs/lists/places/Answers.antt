use Rattle.lucid_value.proofs.Common.{◌≡◌, ◌∙◌, ap, map, arith, Items, item, plain, onto, common_steps}
use Rattle.lucid_value.proofs.Joined.{taken}
use Rattle.lucid_value.proofs.lists.places.Goals as goal

pub loop-rest-preserved : goal.loop-rest-preserved
loop-rest-preserved c =
    let vs : Items = c.deref-in-More.result.now.rest in
    let q : item (plain c.deref.result.now.item) vs ≡ c.loop-rest.rest.now = grind (arith, common_steps) in
    taken (λ v. plain v.now) c.push.new.self.items c.loop-rest.items.items _ vs c.in_ok-push.ensures.items
    ∙ ap (onto (map (λ v. plain v.now) c.loop-rest.items.items)) q ∙ c.loop-rest.invariant
