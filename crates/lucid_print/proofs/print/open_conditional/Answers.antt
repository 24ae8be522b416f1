use Rattle.lucid_print.proofs.Common.{arith, append_assoc}
use Rattle.lucid_print.proofs.Operations.{on_ok}
use Rattle.lucid_print.proofs.Unfolding.{put, before, are, whole}
use Rattle.lucid_print.proofs.print.open_conditional.Goals as goal

pub returns : goal.returns
returns c =
    on_ok c.push-7.result
    (λ p.
    are
    (before
    (before
    (before (before (before (before (put c.in_ok-push.ensures) (whole c.in_ok-push-2.ensures)) (put c.in_ok-push-3.ensures)) (whole c.in_ok-push-4.ensures))
    (put c.in_ok-push-5.ensures)) (whole c.in_ok-push-6.ensures)) (put p)) (simp append_assoc) (omega arith))
    c.push-7.ensures
