use Rattle.lucid_tasks.proofs.Common.{◌<◌, length, ap, sym, subst, ◌∙◌, is_listed}
use Rattle.lucid_tasks.proofs.SlotLemmas.{place_in, place_below, rise_remove, listed_remove}
use Rattle.lucid_tasks.proofs.list.remove_inside.Goals as goal

pub remove-requires : goal.remove-requires
remove-requires c =
    let place = place_in c.deref.result.now c.args.slots.now.items c.place_of-place.result c.args.slot c.deref.ensures.value c.requires.rising c.requires.listed
    c.place_of-place.ensures.below c.place_of-place.ensures.from in
    subst (λ n. c.place_of-place.result < n) (ap length (sym c.deref.ensures.value) ∙ c.deref.ensures.len)
    (place_below c.args.slots.now.items c.place_of-place.result c.args.slot place)

pub returns-clause-rising : goal.returns-clause-rising
returns-clause-rising c = rw c.remove.ensures.items (rise_remove 0 c.args.slots.now.items c.place_of-place.result c.requires.rising)

pub returns-clause-listed : goal.returns-clause-listed
returns-clause-listed c =
    let place = place_in c.deref.result.now c.args.slots.now.items c.place_of-place.result c.args.slot c.deref.ensures.value c.requires.rising c.requires.listed
    c.place_of-place.ensures.below c.place_of-place.ensures.from in
    λ q. ap (λ xs. is_listed xs q) c.remove.ensures.items ∙ listed_remove 0 c.args.slots.now.items c.place_of-place.result c.args.slot c.requires.rising place q
