use Rattle.lucid_print.proofs.Common.{◌++◌, sym, ap, ◌∙◌, arith, codes, source, definitions, sign, work}
use Rattle.lucid_print.proofs.Operations.{on_ok}
use Rattle.lucid_print.proofs.Unfolding.{put, before, are, whole, none, first_definition, definition_work}
use Rattle.lucid_print.proofs.print.open_definitions.Goals as goal

pub returns-in_ok-open_sign-in-Some : goal.returns-in_ok-open_sign-in-Some
returns-in_ok-open_sign-in-Some c =
    let d = c.in-Some.def.now in
    let es = c.next.new.self in
    let is = c.in-Some.ensures.steps in
    on_ok c.push-in-Some-3.result
    (λ p.
    are
    (before (before (before (before (put c.in_ok-push-in-Some.ensures) (put c.in_ok-push-in-Some-2.ensures)) (whole c.in_ok-push-in-Some-3.ensures))
    c.in_ok-open_sign-in-Some.ensures) (put p))
    (ap (λ l. l ++ (sign d.kind ++ (source c.right.result.now ++ (codes "; " ++ definitions es)))) c.bytes.ensures.value
    ∙ ap (λ e. d.name ++ (sign d.kind ++ (source e ++ (codes "; " ++ definitions es)))) c.right.ensures
    ∙ sym (first_definition d c.args.defs es is))
    (omega (arith, ap work c.right.ensures, definition_work d c.args.defs es is)))
    c.push-in-Some-3.ensures

pub returns-in-None : goal.returns-in-None
unfolding definitions
returns-in-None c = none c.args.pieces.now _ _ (ap definitions (sym c.in-None.ensures.steps.0))
