use Rattle.lucid_value.proofs.Common.{◌≡◌, ◌≤◌, ◌++◌, ◌∷◌, take, size_items, items_text}
use Rattle.std.proofs.Common.{length}
use Rattle.lucid_value.proofs.show.+show.Given as goal

abbrev pub decreases-put : goal.decreases-put
decreases-put l = goal.size-put l

abbrev pub decreases-put_list : goal.decreases-put_list
decreases-put_list l = goal.size-put_list l

abbrev pub invariant-put_list-loop-rest : goal.invariant-put_list-loop-rest
invariant-put_list-loop-rest l = record {
  text : l.to.items ++ items_text l.rest ≡ l.fn.to.items ++ 91 ∷ 37 ∷ items_text l.fn.list;
  kept : take (length l.fn.to.items) l.to.items ≡ l.fn.to.items;
  shallow : size_items l.rest ≤ size_items l.fn.list;
}
