use Rattle.lucid_demand.proofs.Common.{sym, subst, Stepped, gave}
use Rattle.std.proofs.Common.{Some}
use Rattle.lucid_demand.proofs.LookingOn.{can_look_on}
use Rattle.lucid_demand.proofs.MayAsk.{can_ask, can_ask_all, may_refer, refers_here}
use Rattle.lucid_demand.proofs.AskedParts.{asked_steps}
use Rattle.lucid_demand.proofs.SettledRows.{part_is_there}
use Rattle.lucid_demand.proofs.Stepping.{decided_so, ready_task, arguments_are_there, stream_is_there, truth_gives, end_gives, fault_gives, refuses}
use Rattle.lucid_demand.proofs.turn.Evaluation.act.Goals as goal

pub settle_part-requires-clause-got : goal.settle_part-requires-clause-got
settle_part-requires-clause-got g c =
    let d = c.requires.may.0 in
    let w = g.P.Places.world c.args.places.now in
    (part_is_there d c.args.self.now w c.args.slot c.in-Part.index (decided_so d c.args.self.now w c.args.slot c.in-Part.is c.requires.may.1)).1

pub settle_applied-requires-clause-there : goal.settle_applied-requires-clause-there
settle_applied-requires-clause-there g c =
    let d = c.requires.may.0 in
    let w = g.P.Places.world c.args.places.now in
    arguments_are_there d c.args.self.now w c.args.slot c.in-Apply.op c.in-Apply.args
    (decided_so d c.args.self.now w c.args.slot c.in-Apply.is c.requires.may.1)

pub end_of_data-requires-clause-ready : goal.end_of_data-requires-clause-ready
end_of_data-requires-clause-ready g c = ready_task c.requires.may.0 c.args.self.now (g.P.Places.world c.args.places.now) c.args.slot c.requires.may.1.step

pub end_in_error-requires-clause-ready : goal.end_in_error-requires-clause-ready
end_in_error-requires-clause-ready g c = ready_task c.requires.may.0 c.args.self.now (g.P.Places.world c.args.places.now) c.args.slot c.requires.may.1.step

pub look_on-requires-clause-on : goal.look_on-requires-clause-on
look_on-requires-clause-on g c =
    let d = c.requires.may.0 in
    let w = g.P.Places.world c.args.places.now in
    can_look_on d c.args.self.now w c.args.slot c.in-LookOn.seen (decided_so d c.args.self.now w c.args.slot c.in-LookOn.is c.requires.may.1)

pub read-requires-clause-stream : goal.read-requires-clause-stream
read-requires-clause-stream g c =
    let d = c.requires.may.0 in
    let w = g.P.Places.world c.args.places.now in
    stream_is_there d c.args.self.now w c.args.slot c.in-Read.stream (decided_so d c.args.self.now w c.args.slot c.in-Read.is c.requires.may.1)

pub returns-in-Part-clause-steps : goal.returns-in-Part-clause-steps
returns-in-Part-clause-steps g c = λ d act.
    let w = g.P.Places.world c.args.places.now in
    c.settle_part.ensures (record { demand = d; world = w }) (decided_so d c.args.self.now w c.args.slot c.in-Part.is act)

pub returns-in-Apply-clause-steps : goal.returns-in-Apply-clause-steps
returns-in-Apply-clause-steps g c = λ d act.
    let w = g.P.Places.world c.args.places.now in
    c.settle_applied.ensures (record { demand = d; world = w }) (decided_so d c.args.self.now w c.args.slot c.in-Apply.is act)

pub returns-in-Constant-clause-steps : goal.returns-in-Constant-clause-steps
returns-in-Constant-clause-steps g c = λ d act.
    let w = g.P.Places.world c.args.places.now in
    c.settle_constant.ensures (record { demand = d; world = w }) (decided_so d c.args.self.now w c.args.slot c.in-Constant.is act)

pub returns-in-Truth-clause-steps : goal.returns-in-Truth-clause-steps
returns-in-Truth-clause-steps g c = λ d act.
    let w = g.P.Places.world c.args.places.now in
    c.settle_truth.ensures (record { demand = d; world = w })
    (truth_gives d c.args.self.now w c.args.slot _ (decided_so d c.args.self.now w c.args.slot c.in-Truth.is act))

pub returns-in-End-clause-steps : goal.returns-in-End-clause-steps
returns-in-End-clause-steps g c = λ d act.
    let w = g.P.Places.world c.args.places.now in
    c.end_of_data.ensures (record { demand = d; world = w })
    (end_gives d c.args.self.now w c.args.slot (decided_so d c.args.self.now w c.args.slot c.in-End.is act))

pub returns-in-Fault-clause-steps : goal.returns-in-Fault-clause-steps
returns-in-Fault-clause-steps g c = λ d act.
    let w = g.P.Places.world c.args.places.now in
    c.end_in_error.ensures (record { demand = d; world = w })
    (fault_gives d c.args.self.now w c.args.slot (decided_so d c.args.self.now w c.args.slot c.in-Fault.is act))

pub returns-in-LookOn-clause-steps : goal.returns-in-LookOn-clause-steps
returns-in-LookOn-clause-steps g c = λ d act.
    let w = g.P.Places.world c.args.places.now in
    subst (λ o. Stepped d c.args.self.now c.look_on.new.self w w (gave c.look_on.result o)) (sym c.requires.open)
    (c.look_on.ensures (record { demand = d; world = w }) (decided_so d c.args.self.now w c.args.slot c.in-LookOn.is act))

pub returns-in-Refuse-clause-steps : goal.returns-in-Refuse-clause-steps
returns-in-Refuse-clause-steps g c = λ d act.
    let w = g.P.Places.world c.args.places.now in
    refuses d c.args.self.now w c.args.slot (decided_so d c.args.self.now w c.args.slot c.in-Refuse.is act)

pub look_on-requires-clause-ready : goal.look_on-requires-clause-ready
look_on-requires-clause-ready g c = ready_task c.requires.may.0 c.args.self.now (g.P.Places.world c.args.places.now) c.args.slot c.requires.may.1.step

pub ask_one-requires-clause-may : goal.ask_one-requires-clause-may
ask_one-requires-clause-may g c =
    let d = c.requires.may.0 in
    let w = g.P.Places.world c.args.places.now in
    (record { demand = d; world = w }, decided_so d c.args.self.now w c.args.slot c.in-Ask.is c.requires.may.1)

pub ask_arguments-requires-clause-can : goal.ask_arguments-requires-clause-can
ask_arguments-requires-clause-can g c =
    let d = c.requires.may.0 in
    let w = g.P.Places.world c.args.places.now in
    can_ask_all d c.args.self.now w c.args.slot c.in-AskAll.op c.in-AskAll.args (decided_so d c.args.self.now w c.args.slot c.in-AskAll.is c.requires.may.1)

pub ask_reference-requires-clause-can : goal.ask_reference-requires-clause-can
ask_reference-requires-clause-can g c =
    let d = c.requires.may.0 in
    let w = g.P.Places.world c.args.places.now in
    can_ask d c.args.self.now w (Some (record { slot = c.args.slot; index = 0 })) c.in-Refer.task _
    (may_refer d c.args.self.now w c.args.slot c.in-Refer.task (decided_so d c.args.self.now w c.args.slot c.in-Refer.is c.requires.may.1))

pub ask_reference-requires-clause-reference : goal.ask_reference-requires-clause-reference
ask_reference-requires-clause-reference g c =
    let d = c.requires.may.0 in
    let w = g.P.Places.world c.args.places.now in
    refers_here d c.args.self.now w c.args.slot c.in-Refer.task (decided_so d c.args.self.now w c.args.slot c.in-Refer.is c.requires.may.1)

pub returns-in-Ask-clause-steps : goal.returns-in-Ask-clause-steps
returns-in-Ask-clause-steps g c = λ d act.
    let w = g.P.Places.world c.args.places.now in
    c.ask_one.ensures (record { demand = d; world = w }) (decided_so d c.args.self.now w c.args.slot c.in-Ask.is act)

pub returns-in-AskAll-clause-steps : goal.returns-in-AskAll-clause-steps
returns-in-AskAll-clause-steps g c = λ d act.
    let w = g.P.Places.world c.args.places.now in
    c.ask_arguments.ensures (record { demand = d; world = w }) (decided_so d c.args.self.now w c.args.slot c.in-AskAll.is act)

pub returns-in-Refer-clause-steps : goal.returns-in-Refer-clause-steps
returns-in-Refer-clause-steps g c = λ d act.
    let w = g.P.Places.world c.args.places.now in
    asked_steps d c.args.self.now c.ask_reference.new.self w (record { slot = c.args.slot; index = 0 }) (gave c.ask_reference.result c.ask_reference.new.answer)
    (c.ask_reference.ensures.asks (record { demand = d; world = w })
    (may_refer d c.args.self.now w c.args.slot c.in-Refer.task (decided_so d c.args.self.now w c.args.slot c.in-Refer.is act)))
