use Rattle.lucid_tags.proofs.TagLemmas.{seen-one_for_one, empty-one_for_one}
use Rattle.lucid_tags.proofs.Tags.reset.Goals as goal

pub returns-then-len-gt0-clause-one_for_one : goal.returns-then-len-gt0-clause-one_for_one
returns-then-len-gt0-clause-one_for_one c = empty-one_for_one c.clear.new.self.rows.keys c.clear.ensures.rows

pub returns-else-len-gt0-clause-one_for_one : goal.returns-else-len-gt0-clause-one_for_one
returns-else-len-gt0-clause-one_for_one c = seen-one_for_one c.self.inside.table.rows.keys _ c.self.view_is c.self.invariant
