use Rattle.lucid_tags.proofs.TagLemmas.{empty-one_for_one}
use Rattle.lucid_tags.proofs.Tags.make.Goals as goal

pub returns-clause-one_for_one : goal.returns-clause-one_for_one
returns-clause-one_for_one c = empty-one_for_one c.make.result.rows.keys c.make.ensures.rows
