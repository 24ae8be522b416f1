use Rattle.lucid_tasks.proofs.Common.{arith, Ok, Err, searched}
use Rattle.lucid_tasks.proofs.SlotLemmas.{rise_sorted, rise_strict}
use Rattle.lucid_tasks.proofs.list.search_slot.Goals as goal

pub returns-in-Ok-clause-below : goal.returns-in-Ok-clause-below
returns-in-Ok-clause-below c =
    let found = searched c.args.slots.now c.args.slot (Ok c.in-Ok.place) c.in-Ok.ensures.position (rise_sorted 0 c.args.slots.now c.requires) in
    λ k h. let lower = rise_strict 0 c.args.slots.now c.requires k c.in-Ok.place h found.0 in omega (arith, lower, found.1)

pub returns-in-Ok-clause-from : goal.returns-in-Ok-clause-from
returns-in-Ok-clause-from c =
    let found = searched c.args.slots.now c.args.slot (Ok c.in-Ok.place) c.in-Ok.ensures.position (rise_sorted 0 c.args.slots.now c.requires) in
    λ k h l. let higher = rise_sorted 0 c.args.slots.now c.requires c.in-Ok.place k h l in omega (arith, higher, found.1)

pub returns-in-Err-clause-below : goal.returns-in-Err-clause-below
returns-in-Err-clause-below c =
    let gap = searched c.args.slots.now c.args.slot (Err c.in-Err.place) c.in-Err.ensures.position (rise_sorted 0 c.args.slots.now c.requires) in
    λ k h. gap.1 k h

pub returns-in-Err-clause-from : goal.returns-in-Err-clause-from
returns-in-Err-clause-from c =
    let gap = searched c.args.slots.now c.args.slot (Err c.in-Err.place) c.in-Err.ensures.position (rise_sorted 0 c.args.slots.now c.requires) in
    λ k h l. let higher = gap.2 k h l in omega (arith, higher)
