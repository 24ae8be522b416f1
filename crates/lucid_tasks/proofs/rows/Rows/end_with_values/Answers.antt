use Rattle.lucid_tasks.proofs.TaskLemmas.{still_row, all_empty, emptied_gone}
use Rattle.lucid_tasks.proofs.rows.Rows.end_with_values.Goals as goal

pub end-requires-clause-row : goal.end-requires-clause-row
end-requires-clause-row c = still_row c.drop_part-2.new.self c.drop_part-3.new.self c.args.slot 0 c.drop_part-3.ensures
    (still_row c.drop_part.new.self c.drop_part-2.new.self c.args.slot 1 c.drop_part-2.ensures
    (still_row c.args.self.now c.drop_part.new.self c.args.slot 2 c.drop_part.ensures c.requires))

pub end-requires-clause-empty : goal.end-requires-clause-empty
end-requires-clause-empty c = all_empty c.args.self.now c.drop_part.new.self c.drop_part-2.new.self c.drop_part-3.new.self c.args.slot c.drop_part.ensures
    c.drop_part-2.ensures c.drop_part-3.ensures

pub returns : goal.returns
returns c = emptied_gone c.args.self.now c.drop_part.new.self c.drop_part-2.new.self c.drop_part-3.new.self c.args.slot c.drop_part.ensures
    c.drop_part-2.ensures c.drop_part-3.ensures c.end.new.self c.end.ensures
