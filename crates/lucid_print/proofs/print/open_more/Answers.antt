use Rattle.lucid_print.proofs.Common.{sym, ap, arith, source, parted_more, texts, parts, work_in}
use Rattle.lucid_print.proofs.Operations.{on_ok}
use Rattle.lucid_print.proofs.Unfolding.{put, before, are, whole, none}
use Rattle.lucid_print.proofs.print.open_more.Goals as goal

pub returns-in_ok-push-in-Some-2 : goal.returns-in_ok-push-in-Some-2
unfolding source
returns-in_ok-push-in-Some-2 c =
    let is = c.in-Some.ensures.steps in
    on_ok c.push-in-Some-2.result
    (λ p. are (before (before (put c.in_ok-push-in-Some.ensures) (whole c.in_ok-push-in-Some-2.ensures)) (put p))
    (ap (λ l. parted_more (texts (parts l))) (sym is)) (omega (arith, ap work_in is)))
    c.push-in-Some-2.ensures

pub returns-in-None : goal.returns-in-None
unfolding source
returns-in-None c = none c.args.pieces.now _ _ (ap (λ l. parted_more (texts (parts l))) (sym c.in-None.ensures.steps.0))
