use Rattle.lucid_demand.proofs.Common.{None, refl, sym, subst, Evaluating, gave, AsksIn, NoMemory}
use Rattle.std.proofs.Common.{Some}
use Rattle.lucid_tasks.specs.Rows.{IsIdlePart}
use Rattle.lucid_demand.proofs.TakenParts.{err_is, gave_err}
use Rattle.lucid_demand.proofs.AskedParts.{passes_known, sets_then}
use Rattle.lucid_demand.proofs.NamedBodies.{row_refused, row_asked, row_sets}
use Rattle.lucid_demand.proofs.turn.Evaluation.ask_within.Goals as goal

pub returns-in_err-body-clause-asks : goal.returns-in_err-body-clause-asks
returns-in_err-body-clause-asks g c = λ i may none.
    subst (λ r. AsksIn i.demand c.args.self.now c.body_of.new.self i.world (Some c.args.part) (gave r None))
    (sym (err_is c.from_residual.result c.in_err-body.field-0.0 c.from_residual.ensures.1)) (c.in_err-body.ensures.refused i (Some c.args.part) may none)

pub ask-requires : goal.ask-requires
ask-requires g c = subst (λ (e : Evaluating). IsIdlePart e.rows c.args.part) (sym c.self.view_is)
    (subst (λ rs. IsIdlePart rs c.args.part) (sym c.body_of.ensures.rows) c.requires.idle)

pub returns-in_err-ask-clause-asks : goal.returns-in_err-ask-clause-asks
returns-in_err-ask-clause-asks g c = λ i may none.
    c.in_ok-body.ensures.goes_on i (Some c.args.part) may none _ (gave c.from_residual-in_err-ask.result None)
    (λ m. row_refused _ c.body_of.new.self c.self.view_is i.demand i.world (Some c.args.part) c.args.task c.in_ok-body.body (Some c.args.aim.key) m
    c.ask.new.self (gave c.from_residual-in_err-ask.result None)
    (gave_err c.from_residual-in_err-ask.result None NoMemory c.from_residual-in_err-ask.ensures.1))

pub returns-clause-sets : goal.returns-clause-sets
returns-clause-sets g c =
    sets_then c.args.self.now c.body_of.new.self _
    (passes_known c.args.self.now c.body_of.new.self c.body_of.ensures.rows c.body_of.ensures.only c.body_of.ensures.keeps) (Some c.args.part)
    (row_sets _ c.body_of.new.self c.self.view_is (Some c.args.part) c.in_ok-body.body _
    (subst (λ rs. IsIdlePart rs c.args.part) (sym c.body_of.ensures.rows) c.requires.idle) c.ask.new.self c.in_ok-ask.field-0
    c.in_ok-ask.ensures.newest c.in_ok-ask.ensures.rows)

pub returns-clause-asks : goal.returns-clause-asks
returns-clause-asks g c = λ i may none.
    c.in_ok-body.ensures.goes_on i (Some c.args.part) may none _ _
    (λ m. row_asked _ c.body_of.new.self c.self.view_is i.demand i.world (Some c.args.part) c.args.task c.in_ok-body.body (Some c.args.aim.key) m
    c.ask.new.self c.in_ok-ask.field-0 c.in_ok-ask.ensures.newest c.in_ok-ask.ensures.rows None refl)
