use Rattle.lucid_print.proofs.Common.{◌++◌, sym, ap, arith, codes, source, parted, texts, parts, work_in}
use Rattle.lucid_print.proofs.Operations.{on_ok}
use Rattle.lucid_print.proofs.Unfolding.{put, before, are, whole, first_argument}
use Rattle.lucid_print.proofs.print.open_arguments.Goals as goal

pub returns-in_ok-push-in-Some-3 : goal.returns-in_ok-push-in-Some-3
returns-in_ok-push-in-Some-3 c =
    let is = c.in-Some.ensures.steps in
    on_ok c.push-in-Some-3.result
    (λ p. are (before (before (before (put c.in_ok-push-in-Some.ensures) (put c.in_ok-push-in-Some-2.ensures)) (whole c.in_ok-push-in-Some-3.ensures)) (put p))
    (first_argument c.in-Some.first.now c.args.args c.next.new.self is) (omega (arith, ap work_in is)))
    c.push-in-Some-3.ensures

pub returns-in-None : goal.returns-in-None
unfolding source
returns-in-None c = on_ok c.push-in-None.result (λ p. are (put p) (ap (λ l. codes "(" ++ (parted (texts (parts l)) ++ codes ")")) (sym c.in-None.ensures.steps.0)) (omega arith)) c.push-in-None.ensures
