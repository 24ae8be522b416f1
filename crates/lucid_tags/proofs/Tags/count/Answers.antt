use Rattle.lucid_tags.proofs.Common.{arith}
use Rattle.lucid_tags.proofs.TagLemmas.{seen-one_for_one, seen-length}
use Rattle.lucid_tags.proofs.Tags.count.Goals as goal

pub returns-clause-count : goal.returns-clause-count
returns-clause-count c = omega (arith, seen-length c.self.inside.table.rows.keys _ c.self.view_is)

pub returns-clause-one_for_one : goal.returns-clause-one_for_one
returns-clause-one_for_one c = seen-one_for_one c.self.inside.table.rows.keys _ c.self.view_is c.self.invariant
