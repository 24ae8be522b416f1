use Rattle.lucid_store.proofs.Common.{arith}
use Rattle.lucid_store.proofs.OrderLemmas.{first_within}
use Rattle.lucid_store.proofs.OrderedViews.{key_at_place, keys_after}
use Rattle.lucid_store.proofs.warehouse.remove_first.Goals as goal

pub remove-key-requires : goal.remove-key-requires
remove-key-requires c =
    let low = first_within c.args.place c.args.order.now c.requires.order.order c.requires.first in
    let count = c.requires.order.count in
    omega (arith, low, count)

pub returns-clause-keys : goal.returns-clause-keys
returns-clause-keys c =
    keys_after c.args.datons.now c.remove-key.new.self c.args.place c.remove-key.result c.args.order.now c.remove_first.new.self c.requires.order c.requires.first
    (key_at_place c.args.datons.now c.remove-key.result c.args.place c.remove-key.ensures.place) c.remove-key.ensures.keys c.remove_first.ensures.gone
