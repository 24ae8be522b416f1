use Rattle.lucid_store.proofs.Common.{refl}
use Rattle.lucid_store.proofs.warehouse.Warehouse.sweep.Goals as goal

pub returns : goal.returns
returns c = rw (← c.self.view_is) (record {
  entries = c.sweep.ensures.each;
  touched = c.held_only-self-inside.ensures;
  lost = refl;
  count = c.sweep.ensures.count;
  order = refl;
})
