use Rattle.lucid_store.proofs.Common.{ap, sym, position, ◌∙◌, same_key}
use Rattle.lucid_store.proofs.Besides.{keys-beside}
use Rattle.lucid_store.proofs.datons.Datons.place.Goals as goal

pub returns : goal.returns
returns c = record {
  place = c.get_index_of.ensures.index ∙ rw (← c.self.view_is)
      (ap (position (same_key c.args.key)) (sym (keys-beside c.self.inside.values.entries c.self.inside.ages)));
}
