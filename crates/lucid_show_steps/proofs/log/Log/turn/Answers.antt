use Rattle.std.proofs.Common.{◌-◌}
use Rattle.lucid_store.specs.Entries.{count_of}
use Rattle.lucid_show_steps.specs.Turns.{NotesOrCounts, touched_in}
use Rattle.lucid_show_steps.proofs.Notes.{seen_notes, equal_drop}
use Rattle.lucid_show_steps.proofs.Turned.{turn_between}
use Rattle.lucid_show_steps.proofs.log.Log.turn.Goals as goal

pub returns-clause-turned : goal.returns-clause-turned
returns-clause-turned c = record {
  before = c.touched_in-touched.new.warehouse;
  after = c.drop_values-count.new.warehouse;
  looked = c.touched_in-touched.ensures.same;
  turned = c.drop_values-count.ensures.turned;
  kept = c.note_seen.ensures.same;
}

pub returns-clause-turn : goal.returns-clause-turn
returns-clause-turn c = turn_between _ _ _ _ _ _ _ c.touched_in-touched.ensures.same c.drop_values-count.ensures.turn c.note_seen.ensures.same

pub returns-clause-noted : goal.returns-clause-noted
returns-clause-noted c =
    seen_notes c.touched_in-touched.result (touched_in c.args.self.now.count c.args.warehouse.now) c.drop_values-count.result
    (count_of c.args.warehouse.now - count_of c.note_seen.new.warehouse) c.note_seen.new.self.lacks
    (λ t n. NotesOrCounts t n c.note_seen.new.warehouse c.args.self.now c.note_seen.new.self)
    (equal_drop _ _ _ _ _ c.drop_values-count.ensures.count c.touched_in-touched.ensures.same.count c.note_seen.ensures.same.count)
    c.touched_in-touched.ensures.touched c.note_seen.ensures.noted
