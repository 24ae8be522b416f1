use Rattle.lucid_tags.proofs.Common.{arith}
use Rattle.lucid_tags.proofs.TagLemmas.{seen-depths}
use Rattle.lucid_tags.proofs.Tags.level.Goals as goal

pub depth_of-requires-clause-known : goal.depth_of-requires-clause-known
depth_of-requires-clause-known c = omega (arith, c.requires, seen-depths c.self.inside.table.rows.keys _ c.self.view_is c.self.invariant)
