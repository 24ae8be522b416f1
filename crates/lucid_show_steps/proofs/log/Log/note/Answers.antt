use Rattle.std.proofs.Common.{subst, ◌≤◌, ◌∙◌}
use Rattle.std.specs.Prelude.{option_map}
use Rattle.lucid_show_steps.specs.Events.{plain_touched}
use Rattle.lucid_show_steps.proofs.Notes.{late_counts}
use Rattle.lucid_show_steps.proofs.log.Log.note.Goals as goal

pub returns-clause-noted : goal.returns-clause-noted
returns-clause-noted c =
    late_counts c.leave_out.result c.args.self.now.most (option_map plain_touched c.args.touched) c.args.count c.values_seen.result c.args.warehouse.now
    c.args.self.now.keys.items c.leave_out.new.self.keys.items c.args.self.now.events.items _
    (subst (λ n. c.args.self.now.most ≤ n) (c.len.ensures ∙ c.args.self.now.events.ok.0) c.if-len-self.false) c.values_seen.ensures c.leave_out.ensures.counted
