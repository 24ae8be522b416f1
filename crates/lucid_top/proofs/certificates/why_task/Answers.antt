use Rattle.lucid_top.proofs.Common.{err_from_is_err_and}
use Rattle.lucid_top.proofs.certificates.why_task.Goals as goal

pub returns-in_err-make_at : goal.returns-in_err-make_at
returns-in_err-make_at g c policy =
    let p = err_from_is_err_and c.from_residual.result c.from_residual.ensures.1 in
    rw (p.1, p.2) (c.in_err-make_at.ensures.does policy)

pub returns : goal.returns
returns g c policy = c.in_ok-make_at.ensures.does policy
