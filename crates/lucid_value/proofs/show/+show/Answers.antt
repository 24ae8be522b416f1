use Rattle.lucid_value.proofs.Common.{err_from_is_err_and}
use Rattle.lucid_value.proofs.Kept.{kept_more, kept_through}
use Rattle.lucid_value.proofs.show.+show.Goals as goal

pub put_list-returns-in_err-put : goal.put_list-returns-in_err-put
put_list-returns-in_err-put t c =
    let p = err_from_is_err_and c.from_residual-in_err-put.result c.from_residual-in_err-put.ensures.1 in
    rw (p.1) (kept_through c.args.to.now.items c.add-in-More.new.to.items c.put.new.to.items
    (rw c.in_ok-add-2.ensures (kept_more _ _ _ c.loop-rest.invariant.kept)) c.in_err-put.ensures)
