use Rattle.lucid_explain_command.proofs.FirstKept.{front_copied}
use Rattle.lucid_explain_command.proofs.piece.copy_front.Goals as goal

pub returns-clause-copied : goal.returns-clause-copied
returns-clause-copied c = front_copied c.min-count.result 256 c.args.shown.now c.copy_from_slice.new.self _ c.min-count.ensures c.copy_from_slice.ensures.after
