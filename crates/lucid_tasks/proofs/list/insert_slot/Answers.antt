use Rattle.lucid_tasks.proofs.SlotLemmas.{pushed_past}
use Rattle.lucid_tasks.proofs.list.insert_slot.Goals as goal

pub returns-in-Some-clause-rising : goal.returns-in-Some-clause-rising
returns-in-Some-clause-rising c =
    pushed_past c.deref.result.now c.args.slots.now.items c.push_reserved-in-Some.new.self.items c.args.slot c.in-Some.last.now c.deref.ensures.value
    c.requires.rising c.requires.absent c.in-Some.ensures.value
    c.if-last-slot.true c.push_reserved-in-Some.ensures.items
