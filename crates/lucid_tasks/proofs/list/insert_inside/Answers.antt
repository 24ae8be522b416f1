use Rattle.lucid_tasks.proofs.Common.{◌<◌, cond, vec_len, ap, ◌∙◌, arith, vec_capacity, is_listed}
use Rattle.std.specs.Prelude.{insert}
use Rattle.lucid_tasks.proofs.SlotLemmas.{insert_in, listed_insert}
use Rattle.lucid_tasks.proofs.list.insert_inside.Goals as goal

pub returns-clause-rising : goal.returns-clause-rising
returns-clause-rising c =
    let room : vec_len c.args.slots.now < vec_capacity c.args.slots.now = omega (arith, c.requires.room) in
    let items = c.insert.ensures.items ∙ ap (λ b. cond b (insert c.args.slots.now.items c.place_of-place.result c.args.slot) c.args.slots.now.items)
    (c.insert.ensures.succeeds room) in
    rw items (insert_in c.deref.result.now c.args.slots.now.items c.place_of-place.result c.args.slot c.deref.ensures.value c.requires.rising c.requires.absent
    c.place_of-place.ensures.below c.place_of-place.ensures.from c.place_of-place.ensures.bound)

pub returns-clause-listed : goal.returns-clause-listed
returns-clause-listed c =
    let room : vec_len c.args.slots.now < vec_capacity c.args.slots.now = omega (arith, c.requires.room) in
    let items = c.insert.ensures.items ∙ ap (λ b. cond b (insert c.args.slots.now.items c.place_of-place.result c.args.slot) c.args.slots.now.items)
    (c.insert.ensures.succeeds room) in
    λ q. ap (λ xs. is_listed xs q) items ∙ listed_insert c.args.slots.now.items c.place_of-place.result c.args.slot q
