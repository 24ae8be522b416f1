use Rattle.lucid_tasks.proofs.Common.{◌-◌, length, ap, ◌∙◌, arith, is_listed}
use Rattle.lucid_tasks.proofs.EndLemmas.{last_of}
use Rattle.lucid_tasks.proofs.SlotLemmas.{last_there, rise_remove, listed_remove}
use Rattle.lucid_tasks.proofs.list.remove_slot.Goals as goal

pub returns-in-Some-clause-rising : goal.returns-in-Some-clause-rising
returns-in-Some-clause-rising c =
    let items = c.args.slots.now.items in
    let last = last_there c.deref.result.now items c.args.slot c.in-Some.last.now c.deref.ensures.value c.in-Some.ensures.value c.if-last-slot.true in
    let left = last_of c.take_last.new.self.items items c.take_last.result (length items - 1) c.take_last.ensures.items (omega (arith, last.0)) in
    rw left.0 (rise_remove 0 items (length items - 1) c.requires.rising)

pub returns-in-Some-clause-listed : goal.returns-in-Some-clause-listed
returns-in-Some-clause-listed c =
    let items = c.args.slots.now.items in
    let last = last_there c.deref.result.now items c.args.slot c.in-Some.last.now c.deref.ensures.value c.in-Some.ensures.value c.if-last-slot.true in
    let left = last_of c.take_last.new.self.items items c.take_last.result (length items - 1) c.take_last.ensures.items (omega (arith, last.0)) in
    λ q. ap (λ xs. is_listed xs q) left.0 ∙ listed_remove 0 items (length items - 1) c.args.slot c.requires.rising last.1 q
