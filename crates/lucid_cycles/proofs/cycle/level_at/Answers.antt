use Rattle.lucid_cycles.proofs.Common.{sym, ◌∙◌}
use Rattle.lucid_cycles.proofs.Closing.{level-is}
use Rattle.lucid_cycles.proofs.cycle.level_at.Goals as goal

pub returns : goal.returns
returns c = c.as_slice.ensures.value ∙ sym (level-is c.args.levels.now c.args.level c.index-levels-level.result c.requires c.index-levels-level.is)
