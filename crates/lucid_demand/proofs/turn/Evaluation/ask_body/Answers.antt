use Rattle.lucid_demand.proofs.Common.{gave, NoMemory}
use Rattle.std.proofs.Common.{Some}
use Rattle.lucid_demand.proofs.TakenParts.{gave_err}
use Rattle.lucid_demand.proofs.AskedParts.{no_ok, open_still}
use Rattle.lucid_demand.proofs.NamedBodies.{row_refused, row_asked, row_sets}
use Rattle.lucid_demand.proofs.turn.Evaluation.ask_body.Goals as goal

pub returns-in_err-ask-in_default-clause-sets : goal.returns-in_err-ask-in_default-clause-sets
returns-in_err-ask-in_default-clause-sets g c = no_ok c.from_residual.result _ _ c.from_residual.ensures.1

pub returns-in_err-ask-in_default-clause-open : goal.returns-in_err-ask-in_default-clause-open
returns-in_err-ask-in_default-clause-open g c = open_still c.args.part c.args.answer.now c.requires.open

pub returns-in_err-ask-in_default-clause-asks : goal.returns-in_err-ask-in_default-clause-asks
returns-in_err-ask-in_default-clause-asks g c = λ i x may.
    row_refused _ c.args.self.now c.self.view_is i.demand i.world c.args.part x c.args.body (Some c.args.key) may c.ask.new.self
    (gave c.from_residual.result c.args.answer.now) (gave_err c.from_residual.result c.args.answer.now NoMemory c.from_residual.ensures.1)

pub returns-in_ok-ask-in_default-clause-sets : goal.returns-in_ok-ask-in_default-clause-sets
returns-in_ok-ask-in_default-clause-sets g c =
    row_sets _ c.args.self.now c.self.view_is c.args.part c.args.body _ c.requires.idle c.ask.new.self c.in_ok-ask-in_default.field-0
    c.in_ok-ask-in_default.ensures.newest c.in_ok-ask-in_default.ensures.rows

pub returns-in_ok-ask-in_default-clause-open : goal.returns-in_ok-ask-in_default-clause-open
returns-in_ok-ask-in_default-clause-open g c = open_still c.args.part c.args.answer.now c.requires.open

pub returns-in_ok-ask-in_default-clause-asks : goal.returns-in_ok-ask-in_default-clause-asks
returns-in_ok-ask-in_default-clause-asks g c = λ i x may.
    row_asked _ c.args.self.now c.self.view_is i.demand i.world c.args.part x c.args.body (Some c.args.key) may c.ask.new.self c.in_ok-ask-in_default.field-0
    c.in_ok-ask-in_default.ensures.newest c.in_ok-ask-in_default.ensures.rows c.args.answer.now c.requires.open
