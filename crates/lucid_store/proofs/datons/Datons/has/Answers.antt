use Rattle.lucid_store.proofs.Common.{sym, ◌∙◌}
use Rattle.lucid_store.proofs.Besides.{found-beside}
use Rattle.lucid_store.proofs.datons.Datons.has.Goals as goal

pub returns : goal.returns
returns c = c.contains_key.ensures ∙ rw (← c.self.view_is) (sym (found-beside c.args.key c.self.inside.values.entries c.self.inside.ages))
