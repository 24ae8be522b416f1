use Rattle.lucid_store.proofs.Common.{sym, ◌∙◌}
use Rattle.lucid_store.proofs.Besides.{keys-beside, length-beside}
use Rattle.lucid_store.proofs.datons.Datons.len.Goals as goal

pub returns-clause-count : goal.returns-clause-count
returns-clause-count c = c.len.ensures.len ∙ rw (← c.self.view_is) (sym (length-beside c.self.inside.values.entries c.self.inside.ages))

pub returns-clause-one_for_each : goal.returns-clause-one_for_each
returns-clause-one_for_each c = rw (← c.self.view_is, keys-beside c.self.inside.values.entries c.self.inside.ages) c.len.ensures.unique
