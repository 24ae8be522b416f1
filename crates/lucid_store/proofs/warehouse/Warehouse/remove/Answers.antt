use Rattle.lucid_store.proofs.TouchedLemmas.{touched_without}
use Rattle.lucid_store.proofs.warehouse.Warehouse.remove.Goals as goal

pub invariant_of-self : goal.invariant_of-self
invariant_of-self c = rw c.without-self-inside.ensures
    (touched_without c.self.inside.datons c.forget-was.new.self c.args.key c.self.inside.touched c.forget-was.ensures.entries c.self.invariant.0, tt)
