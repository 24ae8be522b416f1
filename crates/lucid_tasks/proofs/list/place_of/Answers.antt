use Rattle.lucid_tasks.proofs.SlotLemmas.{below_last, below_before_last}
use Rattle.lucid_tasks.proofs.list.place_of.Goals as goal

pub returns-in-Some-clause-below : goal.returns-in-Some-clause-below
returns-in-Some-clause-below c = below_last c.args.slots.now c.args.slot c.in-Some.last.now c.requires c.in-Some.ensures.value c.if-last-slot.true

pub returns-in-Some-2-clause-below : goal.returns-in-Some-2-clause-below
returns-in-Some-2-clause-below c = below_before_last c.args.slots.now c.args.slot c.in-Some.last.now c.requires c.in-Some.ensures.value c.if-last-slot-2.true
