use Rattle.lucid_print.proofs.Common.{refl, sym, ap, ◌∙◌, arith, source, work_in}
use Rattle.lucid_print.proofs.Operations.{on_ok, as_written, not_one, not_two, not_three}
use Rattle.lucid_print.proofs.Unfolding.{are, none}
use Rattle.lucid_print.proofs.print.open_form.Goals as goal

pub returns-in-Some : goal.returns-in-Some
unfolding source
returns-in-Some c = on_ok c.open_conditional.result
    (λ u. are u (as_written c.args.style _ c.args.parts _ c.in-Conditional.is c.in-Some.ensures) (omega (arith, ap work_in c.in-Some.ensures)))
    c.open_conditional.ensures

pub returns-in-None : goal.returns-in-None
returns-in-None c = none c.args.pieces.now _ _ (sym (not_three c.args.parts c.in-None.ensures)
    ∙ as_written c.args.style _ c.args.parts _ c.in-Conditional.is refl)

pub returns-in-Some-two : goal.returns-in-Some-two
unfolding source
returns-in-Some-two c = on_ok c.open_between.result
    (λ u. are u (as_written c.args.style _ c.args.parts _ c.in-Infix.is c.in-Some-two.ensures) (omega (arith, ap work_in c.in-Some-two.ensures)))
    c.open_between.ensures

pub returns-in-None-two : goal.returns-in-None-two
returns-in-None-two c = none c.args.pieces.now _ _
    (sym (not_two c.in-Infix.operator c.args.parts c.in-None-two.ensures) ∙ as_written c.args.style _ c.args.parts _ c.in-Infix.is refl)

pub returns-in-Some-one : goal.returns-in-Some-one
unfolding source
returns-in-Some-one c = on_ok c.open_before.result
    (λ u. are u (as_written c.args.style _ c.args.parts _ c.in-Prefix.is c.in-Some-one.ensures) (omega (arith, ap work_in c.in-Some-one.ensures)))
    c.open_before.ensures

pub returns-in-None-one : goal.returns-in-None-one
returns-in-None-one c = none c.args.pieces.now _ _
    (sym (not_one c.in-Prefix.operator c.args.parts c.in-None-one.ensures) ∙ as_written c.args.style _ c.args.parts _ c.in-Prefix.is refl)
