use Rattle.lucid_demand.proofs.Common.{None, refl, sym, subst, value_at, AsksIn, gave, NoMemory}
use Rattle.std.proofs.Common.{◌≡◌, Some}
use Rattle.std.specs.Prelude.{IfSome, Ok, Err}
use Rattle.lucid_tasks.specs.Rows.{IsIdlePart}
use Rattle.lucid_demand.specs.Naming.{IsNamedAim, MayHaveRow}
use Rattle.lucid_demand.specs.Telling.{IsOperation, IsTold, IsSeenAs}
use Rattle.lucid_demand.specs.Leading.{LeadsTo, OnDone}
use Rattle.lucid_demand.proofs.AskedParts.{sets_then}
use Rattle.lucid_demand.proofs.NamedBodies.{row_refused, new_part}
use Rattle.lucid_demand.proofs.AskedOperators.{passes_looked, first_refused, first_lacks, first_operation, first_absent, both_pass, second_refused, row_with_refused, second_lacks, both_given, made_idle, made_given, made_absent}
use Rattle.lucid_demand.proofs.Leading.{any_part, done_err, none_next, on_done, done_from, first_leads, row_with_sets, second_leads}
use Rattle.lucid_demand.proofs.turn.Evaluation.ask_operation.Goals as goal

-- ---- it is no operation

pub returns-in_default-clause-asks : goal.returns-in_default-clause-asks
returns-in_default-clause-asks g c = λ i x may.
    subst (λ o. OnDone c.ask_row.result (λ done. AsksIn i.demand c.args.self.now c.ask_row.new.self i.world c.args.wanted.part (gave done o)))
    (sym c.requires.open) (c.ask_row.ensures.asks i x may)

pub returns-in_default-clause-next : goal.returns-in_default-clause-next
returns-in_default-clause-next g c = none_next c.ask_row.result _ c.ask_row.ensures.done

-- ---- the first argument isn't told

pub returns-in_err-value-clause-asks : goal.returns-in_err-value-clause-asks
returns-in_err-value-clause-asks g c = λ i x may.
    let is : IsOperation c.args.self.now.engine.table c.args.wanted.task.node c.in-Some.operation =
    subst (λ o. IfSome o (IsOperation c.args.self.now.engine.table c.args.wanted.task.node)) c.in-Some.is c.operation.ensures in
    done_err c.from_residual.result NoMemory _ c.from_residual.ensures.1
    (first_refused c.args.self.now c.look.new.self c.args.wanted.part c.args.wanted.task c.args.wanted.key c.in-Some.operation is c.look.ensures.looks (Err NoMemory) refl i x may)

pub returns-in_err-slot-in-Absent-clause-asks : goal.returns-in_err-slot-in-Absent-clause-asks
returns-in_err-slot-in-Absent-clause-asks g c = λ i x may.
    let is : IsOperation c.args.self.now.engine.table c.args.wanted.task.node c.in-Some.operation =
    subst (λ o. IfSome o (IsOperation c.args.self.now.engine.table c.args.wanted.task.node)) c.in-Some.is c.operation.ensures in
    done_err c.from_residual-in_err-slot-in-Absent.result NoMemory _ c.from_residual-in_err-slot-in-Absent.ensures.1
    (first_lacks c.args.self.now c.look.new.self c.args.wanted.part c.args.wanted.task c.args.wanted.key c.in-Some.operation is c.look.ensures.looks _ (Err NoMemory) i x
    (λ m. row_refused _ c.look.new.self c.self.view_is i.demand i.world c.args.wanted.part x c.args.wanted.task c.args.wanted.key m c.ask.new.self
    (Err NoMemory) refl) may)

pub returns-in_err-body-in-Absent-clause-asks : goal.returns-in_err-body-in-Absent-clause-asks
returns-in_err-body-in-Absent-clause-asks g c = λ i x may.
    let is : IsOperation c.args.self.now.engine.table c.args.wanted.task.node c.in-Some.operation =
    subst (λ o. IfSome o (IsOperation c.args.self.now.engine.table c.args.wanted.task.node)) c.in-Some.is c.operation.ensures in
    let absent : IsNamedAim c.look.new.self (record c.args.wanted.task { node = c.in-Some.operation.first }) c.in-Absent.aim × (value_at c.look.new.self.engine.stored c.in-Absent.aim.key ≡ None) =
    subst (λ z. IsSeenAs c.look.new.self (record c.args.wanted.task { node = c.in-Some.operation.first }) z) c.in-Absent.is c.in_ok-value.ensures.seen in
    done_err c.from_residual-in_err-body-in-Absent.result c.in_err-body-in-Absent.field-0.0 _ c.from_residual-in_err-body-in-Absent.ensures.1
    (first_lacks c.args.self.now c.look.new.self c.args.wanted.part c.args.wanted.task c.args.wanted.key c.in-Some.operation is c.look.ensures.looks c.body_of.new.self (Err c.in_err-body-in-Absent.field-0.0) i x
    (λ m. first_absent i.demand _ c.look.new.self c.self.view_is i.world c.args.wanted.part x c.args.wanted.task c.args.wanted.key m c.in-Some.operation
    (first_operation c.args.self.now c.look.new.self c.args.wanted.part c.args.wanted.task c.args.wanted.key c.in-Some.operation is c.look.ensures.looks) c.ask.new.self
    c.in_ok-slot-in-Absent.slot c.in_ok-slot-in-Absent.ensures.newest c.in_ok-slot-in-Absent.ensures.rows c.in-Absent.aim absent.1 c.body_of.new.self
    (Err c.in_err-body-in-Absent.field-0.0)
    (c.in_err-body-in-Absent.ensures.refused i (Some (record { slot = c.in_ok-slot-in-Absent.slot; index = 0 })))) may)

pub returns-in-Absent-clause-next : goal.returns-in-Absent-clause-next
returns-in-Absent-clause-next g c =
    let is : IsOperation c.args.self.now.engine.table c.args.wanted.task.node c.in-Some.operation =
    subst (λ o. IfSome o (IsOperation c.args.self.now.engine.table c.args.wanted.task.node)) c.in-Some.is c.operation.ensures in
    let absent : IsNamedAim c.look.new.self (record c.args.wanted.task { node = c.in-Some.operation.first }) c.in-Absent.aim × (value_at c.look.new.self.engine.stored c.in-Absent.aim.key ≡ None) =
    subst (λ z. IsSeenAs c.look.new.self (record c.args.wanted.task { node = c.in-Some.operation.first }) z) c.in-Absent.is c.in_ok-value.ensures.seen in
    subst (λ n. LeadsTo c.args.self.now c.body_of.new.self c.args.wanted n × (c.args.answer.now ≡ None))
    (sym c.for_part.ensures) (
      record {
        for_part = any_part c.args.wanted.part (record { slot = c.in_ok-slot-in-Absent.slot; index = 0 });
        idle = subst (λ rs. IsIdlePart rs (record { slot = c.in_ok-slot-in-Absent.slot; index = 0 })) (sym c.body_of.ensures.rows)
            (new_part c.self.inside.tasks c.ask.new.self c.args.wanted.part c.in_ok-slot-in-Absent.slot c.args.wanted.task c.args.wanted.key
            c.in_ok-slot-in-Absent.ensures.rows);
        there = c.in_ok-body-in-Absent.ensures.there;
        known = c.in_ok-body-in-Absent.ensures.known;
        sets = λ new s.
            first_leads c.args.self.now c.look.new.self _ c.body_of.new.self new (passes_looked c.args.self.now c.look.new.self c.look.ensures.looks)
            c.self.view_is c.args.wanted.part c.args.wanted.task c.args.wanted.key c.requires.idle c.ask.new.self
            c.in_ok-slot-in-Absent.slot c.in_ok-slot-in-Absent.ensures.newest c.in_ok-slot-in-Absent.ensures.rows c.body_of.ensures.rows c.body_of.ensures.only
            c.body_of.ensures.keeps s;
        asks = λ i new res last x may.
            first_lacks c.args.self.now c.look.new.self c.args.wanted.part c.args.wanted.task c.args.wanted.key c.in-Some.operation is c.look.ensures.looks new res i x
            (λ m. first_absent i.demand _ c.look.new.self c.self.view_is i.world c.args.wanted.part x c.args.wanted.task c.args.wanted.key m c.in-Some.operation
            (first_operation c.args.self.now c.look.new.self c.args.wanted.part c.args.wanted.task c.args.wanted.key c.in-Some.operation is c.look.ensures.looks) c.ask.new.self
            c.in_ok-slot-in-Absent.slot c.in_ok-slot-in-Absent.ensures.newest c.in_ok-slot-in-Absent.ensures.rows c.in-Absent.aim absent.1 new res
            (λ refers none. c.in_ok-body-in-Absent.ensures.goes_on i (Some (record { slot = c.in_ok-slot-in-Absent.slot; index = 0 })) refers none new res
            (last (record c.args.wanted.task { node = c.in-Some.operation.first })))) may;
      },
      c.requires.open,
    )

pub returns-in-Other-clause-asks : goal.returns-in-Other-clause-asks
returns-in-Other-clause-asks g c = λ i x may.
    let is : IsOperation c.args.self.now.engine.table c.args.wanted.task.node c.in-Some.operation =
    subst (λ o. IfSome o (IsOperation c.args.self.now.engine.table c.args.wanted.task.node)) c.in-Some.is c.operation.ensures in
    subst (λ o. OnDone c.ask_row-in-Other.result (λ done. AsksIn i.demand c.args.self.now c.ask_row-in-Other.new.self i.world c.args.wanted.part (gave done o)))
    (sym c.requires.open)
    (on_done c.ask_row-in-Other.result
    (λ z. MayHaveRow i.demand c.look.new.self i.world c.args.wanted.part x c.args.wanted.task c.args.wanted.key
    → AsksIn i.demand c.look.new.self c.ask_row-in-Other.new.self i.world c.args.wanted.part (gave z None))
    (λ z. AsksIn i.demand c.args.self.now c.ask_row-in-Other.new.self i.world c.args.wanted.part (gave z None))
    (λ z asks. first_lacks c.args.self.now c.look.new.self c.args.wanted.part c.args.wanted.task c.args.wanted.key c.in-Some.operation is c.look.ensures.looks
    c.ask_row-in-Other.new.self (gave z None) i x asks may)
    (done_from c.ask_row-in-Other.result _ (λ z. AsksIn i.demand c.look.new.self c.ask_row-in-Other.new.self i.world c.args.wanted.part (gave z None))
    (c.ask_row-in-Other.ensures.asks i x)))

pub returns-in-Other-clause-next : goal.returns-in-Other-clause-next
returns-in-Other-clause-next g c = none_next c.ask_row-in-Other.result _ c.ask_row-in-Other.ensures.done

-- ---- the second isn't

pub returns-in_err-value-2-clause-asks : goal.returns-in_err-value-2-clause-asks
returns-in_err-value-2-clause-asks g c = λ i x may.
    let is : IsOperation c.args.self.now.engine.table c.args.wanted.task.node c.in-Some.operation =
    subst (λ o. IfSome o (IsOperation c.args.self.now.engine.table c.args.wanted.task.node)) c.in-Some.is c.operation.ensures in
    let first : IsTold c.look.new.self (record c.args.wanted.task { node = c.in-Some.operation.first }) c.in-Told.value =
    subst (λ z. IsSeenAs c.look.new.self (record c.args.wanted.task { node = c.in-Some.operation.first }) z) c.in-Told.is c.in_ok-value.ensures.seen in
    done_err c.from_residual-in_err-value-2.result NoMemory _ c.from_residual-in_err-value-2.ensures.1
    (second_refused c.args.self.now c.look.new.self c.args.wanted.part c.args.wanted.task c.args.wanted.key c.in-Some.operation is c.look.ensures.looks c.in-Told.value first
    c.drop_values.new.self c.look-2.new.self c.drop_values.ensures.turned c.drop_values.ensures.rows c.look-2.ensures.looks
    (Err NoMemory) refl i x may)

pub returns-in_err-slot-in-Absent-2-clause-asks : goal.returns-in_err-slot-in-Absent-2-clause-asks
returns-in_err-slot-in-Absent-2-clause-asks g c = λ i x may.
    let is : IsOperation c.args.self.now.engine.table c.args.wanted.task.node c.in-Some.operation =
    subst (λ o. IfSome o (IsOperation c.args.self.now.engine.table c.args.wanted.task.node)) c.in-Some.is c.operation.ensures in
    let first : IsTold c.look.new.self (record c.args.wanted.task { node = c.in-Some.operation.first }) c.in-Told.value =
    subst (λ z. IsSeenAs c.look.new.self (record c.args.wanted.task { node = c.in-Some.operation.first }) z) c.in-Told.is c.in_ok-value.ensures.seen in
    done_err c.from_residual-in_err-slot-in-Absent-2.result NoMemory _ c.from_residual-in_err-slot-in-Absent-2.ensures.1
    (row_with_refused c.args.self.now c.look.new.self c.args.wanted.part c.args.wanted.task c.args.wanted.key c.in-Some.operation is c.look.ensures.looks c.in-Told.value first
    c.drop_values.new.self c.look-2.new.self c.drop_values.ensures.turned c.drop_values.ensures.rows c.look-2.ensures.looks
    c.ask_row_with.new.self c.ask_row_with.ensures.only (Err NoMemory) refl i x may)

pub returns-in_err-body-in-Absent-2-clause-asks : goal.returns-in_err-body-in-Absent-2-clause-asks
returns-in_err-body-in-Absent-2-clause-asks g c = λ i x may.
    let is : IsOperation c.args.self.now.engine.table c.args.wanted.task.node c.in-Some.operation =
    subst (λ o. IfSome o (IsOperation c.args.self.now.engine.table c.args.wanted.task.node)) c.in-Some.is c.operation.ensures in
    let first : IsTold c.look.new.self (record c.args.wanted.task { node = c.in-Some.operation.first }) c.in-Told.value =
    subst (λ z. IsSeenAs c.look.new.self (record c.args.wanted.task { node = c.in-Some.operation.first }) z) c.in-Told.is c.in_ok-value.ensures.seen in
    let absent : IsNamedAim c.look-2.new.self (record c.args.wanted.task { node = c.in-Some.operation.second }) c.in-Absent-2.aim × (value_at c.look-2.new.self.engine.stored c.in-Absent-2.aim.key ≡ None) =
    subst (λ z. IsSeenAs c.look-2.new.self (record c.args.wanted.task { node = c.in-Some.operation.second }) z) c.in-Absent-2.is c.in_ok-value-2.ensures.seen in
    done_err c.from_residual-in_err-body-in-Absent-2.result c.in_err-body-in-Absent-2.field-0.0 _ c.from_residual-in_err-body-in-Absent-2.ensures.1
    (second_lacks c.args.self.now c.look.new.self c.args.wanted.part c.args.wanted.task c.args.wanted.key c.in-Some.operation is c.look.ensures.looks c.in-Told.value first
    c.drop_values.new.self c.look-2.new.self c.drop_values.ensures.turned c.drop_values.ensures.rows c.look-2.ensures.looks
    c.body_of-in-Absent-2.new.self (Err c.in_err-body-in-Absent-2.field-0.0) i x
    (λ m p a. made_absent c.look-2.new.self c.ask_row_with.new.self c.args.wanted.part c.in_ok-slot-in-Absent-2.slot c.args.wanted.task c.args.wanted.key
    c.in-Told.value c.in_ok-slot-in-Absent-2.ensures.rows c.ask_row_with.ensures.only i.demand i.world x c.in-Some.operation m p a c.in-Absent-2.aim
    absent.1 c.body_of-in-Absent-2.new.self (Err c.in_err-body-in-Absent-2.field-0.0)
    (c.in_err-body-in-Absent-2.ensures.refused i (Some (record { slot = c.in_ok-slot-in-Absent-2.slot; index = 1 })))) may)

pub returns-in-Absent-2-clause-next : goal.returns-in-Absent-2-clause-next
returns-in-Absent-2-clause-next g c =
    let is : IsOperation c.args.self.now.engine.table c.args.wanted.task.node c.in-Some.operation =
    subst (λ o. IfSome o (IsOperation c.args.self.now.engine.table c.args.wanted.task.node)) c.in-Some.is c.operation.ensures in
    let first : IsTold c.look.new.self (record c.args.wanted.task { node = c.in-Some.operation.first }) c.in-Told.value =
    subst (λ z. IsSeenAs c.look.new.self (record c.args.wanted.task { node = c.in-Some.operation.first }) z) c.in-Told.is c.in_ok-value.ensures.seen in
    let absent : IsNamedAim c.look-2.new.self (record c.args.wanted.task { node = c.in-Some.operation.second }) c.in-Absent-2.aim × (value_at c.look-2.new.self.engine.stored c.in-Absent-2.aim.key ≡ None) =
    subst (λ z. IsSeenAs c.look-2.new.self (record c.args.wanted.task { node = c.in-Some.operation.second }) z) c.in-Absent-2.is c.in_ok-value-2.ensures.seen in
    subst (λ n. LeadsTo c.args.self.now c.body_of-in-Absent-2.new.self c.args.wanted n × (c.args.answer.now ≡ None))
    (sym c.for_part-in-Absent-2.ensures) (
      record {
        for_part = any_part c.args.wanted.part (record { slot = c.in_ok-slot-in-Absent-2.slot; index = 1 });
        idle = subst (λ rs. IsIdlePart rs (record { slot = c.in_ok-slot-in-Absent-2.slot; index = 1 })) (sym c.body_of-in-Absent-2.ensures.rows)
            (made_idle c.look-2.new.self c.ask_row_with.new.self c.args.wanted.part c.in_ok-slot-in-Absent-2.slot c.args.wanted.task c.args.wanted.key
            c.in-Told.value c.in_ok-slot-in-Absent-2.ensures.rows c.ask_row_with.ensures.only);
        there = c.in_ok-body-in-Absent-2.ensures.there;
        known = c.in_ok-body-in-Absent-2.ensures.known;
        sets = λ new s.
            second_leads c.args.self.now c.look-2.new.self c.ask_row_with.new.self
            (both_pass c.args.self.now c.look.new.self c.args.wanted.part c.args.wanted.task c.args.wanted.key c.in-Some.operation is c.look.ensures.looks c.in-Told.value first
            c.drop_values.new.self c.look-2.new.self c.drop_values.ensures.turned c.drop_values.ensures.rows c.look-2.ensures.looks)
            c.args.wanted.part c.in_ok-slot-in-Absent-2.slot c.args.wanted.task c.args.wanted.key c.in-Told.value c.in_ok-slot-in-Absent-2.ensures.rows
            c.ask_row_with.ensures.only c.requires.idle c.body_of-in-Absent-2.new.self new c.body_of-in-Absent-2.ensures.rows
            c.body_of-in-Absent-2.ensures.only c.body_of-in-Absent-2.ensures.keeps s;
        asks = λ i new res last x may.
            second_lacks c.args.self.now c.look.new.self c.args.wanted.part c.args.wanted.task c.args.wanted.key c.in-Some.operation is c.look.ensures.looks c.in-Told.value first
            c.drop_values.new.self c.look-2.new.self c.drop_values.ensures.turned c.drop_values.ensures.rows c.look-2.ensures.looks
            new res i x
            (λ m p a. made_absent c.look-2.new.self c.ask_row_with.new.self c.args.wanted.part c.in_ok-slot-in-Absent-2.slot c.args.wanted.task
            c.args.wanted.key c.in-Told.value c.in_ok-slot-in-Absent-2.ensures.rows c.ask_row_with.ensures.only i.demand i.world x c.in-Some.operation m p a
            c.in-Absent-2.aim absent.1 new res
            (λ refers none. c.in_ok-body-in-Absent-2.ensures.goes_on i (Some (record { slot = c.in_ok-slot-in-Absent-2.slot; index = 1 })) refers none new res
            (last (record c.args.wanted.task { node = c.in-Some.operation.second })))) may;
      },
      c.requires.open,
    )

pub returns-in_err-ask_row_with-in-Other-2-clause-asks : goal.returns-in_err-ask_row_with-in-Other-2-clause-asks
returns-in_err-ask_row_with-in-Other-2-clause-asks g c = λ i x may.
    let is : IsOperation c.args.self.now.engine.table c.args.wanted.task.node c.in-Some.operation =
    subst (λ o. IfSome o (IsOperation c.args.self.now.engine.table c.args.wanted.task.node)) c.in-Some.is c.operation.ensures in
    let first : IsTold c.look.new.self (record c.args.wanted.task { node = c.in-Some.operation.first }) c.in-Told.value =
    subst (λ z. IsSeenAs c.look.new.self (record c.args.wanted.task { node = c.in-Some.operation.first }) z) c.in-Told.is c.in_ok-value.ensures.seen in
    done_err c.from_residual-in_err-ask_row_with-in-Other-2.result NoMemory _ c.from_residual-in_err-ask_row_with-in-Other-2.ensures.1
    (row_with_refused c.args.self.now c.look.new.self c.args.wanted.part c.args.wanted.task c.args.wanted.key c.in-Some.operation is c.look.ensures.looks c.in-Told.value first
    c.drop_values.new.self c.look-2.new.self c.drop_values.ensures.turned c.drop_values.ensures.rows c.look-2.ensures.looks
    c.ask_row_with-in-Other-2.new.self c.ask_row_with-in-Other-2.ensures.only (Err NoMemory) refl i x may)

pub returns-in-Other-2-clause-sets : goal.returns-in-Other-2-clause-sets
returns-in-Other-2-clause-sets g c =
    let is : IsOperation c.args.self.now.engine.table c.args.wanted.task.node c.in-Some.operation =
    subst (λ o. IfSome o (IsOperation c.args.self.now.engine.table c.args.wanted.task.node)) c.in-Some.is c.operation.ensures in
    let first : IsTold c.look.new.self (record c.args.wanted.task { node = c.in-Some.operation.first }) c.in-Told.value =
    subst (λ z. IsSeenAs c.look.new.self (record c.args.wanted.task { node = c.in-Some.operation.first }) z) c.in-Told.is c.in_ok-value.ensures.seen in
    row_with_sets c.args.self.now c.look-2.new.self c.ask_row_with-in-Other-2.new.self
    (both_pass c.args.self.now c.look.new.self c.args.wanted.part c.args.wanted.task c.args.wanted.key c.in-Some.operation is c.look.ensures.looks c.in-Told.value first
    c.drop_values.new.self c.look-2.new.self c.drop_values.ensures.turned c.drop_values.ensures.rows c.look-2.ensures.looks)
    c.args.wanted.part c.in_ok-ask_row_with-in-Other-2.field-0 c.args.wanted.task c.args.wanted.key c.in-Told.value
    c.in_ok-ask_row_with-in-Other-2.ensures.rows c.ask_row_with-in-Other-2.ensures.only c.requires.idle

pub returns-in-Other-2-clause-asks : goal.returns-in-Other-2-clause-asks
returns-in-Other-2-clause-asks g c = λ i x may.
    let is : IsOperation c.args.self.now.engine.table c.args.wanted.task.node c.in-Some.operation =
    subst (λ o. IfSome o (IsOperation c.args.self.now.engine.table c.args.wanted.task.node)) c.in-Some.is c.operation.ensures in
    let first : IsTold c.look.new.self (record c.args.wanted.task { node = c.in-Some.operation.first }) c.in-Told.value =
    subst (λ z. IsSeenAs c.look.new.self (record c.args.wanted.task { node = c.in-Some.operation.first }) z) c.in-Told.is c.in_ok-value.ensures.seen in
    second_lacks c.args.self.now c.look.new.self c.args.wanted.part c.args.wanted.task c.args.wanted.key c.in-Some.operation is c.look.ensures.looks c.in-Told.value first
    c.drop_values.new.self c.look-2.new.self c.drop_values.ensures.turned c.drop_values.ensures.rows c.look-2.ensures.looks
    c.ask_row_with-in-Other-2.new.self (Ok c.args.answer.now) i x
    (λ m p a. made_given c.look-2.new.self c.ask_row_with-in-Other-2.new.self c.args.wanted.part c.in_ok-ask_row_with-in-Other-2.field-0 c.args.wanted.task
    c.args.wanted.key c.in-Told.value c.in_ok-ask_row_with-in-Other-2.ensures.rows c.ask_row_with-in-Other-2.ensures.only i.demand i.world x
    c.in-Some.operation m p a c.args.answer.now c.requires.open) may

-- ---- both are told

pub returns-in_err-value-3-clause-asks : goal.returns-in_err-value-3-clause-asks
returns-in_err-value-3-clause-asks g c = λ i x may.
    let is : IsOperation c.args.self.now.engine.table c.args.wanted.task.node c.in-Some.operation =
    subst (λ o. IfSome o (IsOperation c.args.self.now.engine.table c.args.wanted.task.node)) c.in-Some.is c.operation.ensures in
    let first : IsTold c.look.new.self (record c.args.wanted.task { node = c.in-Some.operation.first }) c.in-Told.value =
    subst (λ z. IsSeenAs c.look.new.self (record c.args.wanted.task { node = c.in-Some.operation.first }) z) c.in-Told.is c.in_ok-value.ensures.seen in
    done_err c.from_residual-in_err-value-3.result NoMemory _ c.from_residual-in_err-value-3.ensures.1
    (second_refused c.args.self.now c.look.new.self c.args.wanted.part c.args.wanted.task c.args.wanted.key c.in-Some.operation is c.look.ensures.looks c.in-Told.value first
    c.drop_values.new.self c.look-2.new.self c.drop_values.ensures.turned c.drop_values.ensures.rows c.look-2.ensures.looks
    (Err NoMemory) refl i x may)

pub returns-in_err-give_at_once-clause-asks : goal.returns-in_err-give_at_once-clause-asks
returns-in_err-give_at_once-clause-asks g c = λ i x may.
    let is : IsOperation c.args.self.now.engine.table c.args.wanted.task.node c.in-Some.operation =
    subst (λ o. IfSome o (IsOperation c.args.self.now.engine.table c.args.wanted.task.node)) c.in-Some.is c.operation.ensures in
    let first : IsTold c.look.new.self (record c.args.wanted.task { node = c.in-Some.operation.first }) c.in-Told.value =
    subst (λ z. IsSeenAs c.look.new.self (record c.args.wanted.task { node = c.in-Some.operation.first }) z) c.in-Told.is c.in_ok-value.ensures.seen in
    let second : IsTold c.look-2.new.self (record c.args.wanted.task { node = c.in-Some.operation.second }) c.in-Told-2.value =
    subst (λ z. IsSeenAs c.look-2.new.self (record c.args.wanted.task { node = c.in-Some.operation.second }) z) c.in-Told-2.is c.in_ok-value-2.ensures.seen in
    done_err c.from_residual-in_err-give_at_once.result c.in_err-give_at_once.field-0.0 _ c.from_residual-in_err-give_at_once.ensures.1
    (both_given c.args.self.now c.look.new.self c.args.wanted.part c.args.wanted.task c.args.wanted.key c.in-Some.operation is c.look.ensures.looks c.in-Told.value first
    c.drop_values.new.self c.look-2.new.self c.drop_values.ensures.turned c.drop_values.ensures.rows c.look-2.ensures.looks c.in-Told-2.value second c.in_ok-value-3.value
    c.in_ok-value-3.ensures c.give_at_once.new.self (Err c.in_err-give_at_once.field-0.0) i x (c.in_err-give_at_once.ensures.asks i x c.args.wanted.task) may)

pub returns-clause-sets : goal.returns-clause-sets
returns-clause-sets g c =
    let is : IsOperation c.args.self.now.engine.table c.args.wanted.task.node c.in-Some.operation =
    subst (λ o. IfSome o (IsOperation c.args.self.now.engine.table c.args.wanted.task.node)) c.in-Some.is c.operation.ensures in
    let first : IsTold c.look.new.self (record c.args.wanted.task { node = c.in-Some.operation.first }) c.in-Told.value =
    subst (λ z. IsSeenAs c.look.new.self (record c.args.wanted.task { node = c.in-Some.operation.first }) z) c.in-Told.is c.in_ok-value.ensures.seen in
    sets_then c.args.self.now c.look-2.new.self c.give_at_once.new.self
    (both_pass c.args.self.now c.look.new.self c.args.wanted.part c.args.wanted.task c.args.wanted.key c.in-Some.operation is c.look.ensures.looks c.in-Told.value first
    c.drop_values.new.self c.look-2.new.self c.drop_values.ensures.turned c.drop_values.ensures.rows c.look-2.ensures.looks)
    c.args.wanted.part c.in_ok-give_at_once.ensures.sets

pub returns-clause-asks : goal.returns-clause-asks
returns-clause-asks g c = λ i x may.
    let is : IsOperation c.args.self.now.engine.table c.args.wanted.task.node c.in-Some.operation =
    subst (λ o. IfSome o (IsOperation c.args.self.now.engine.table c.args.wanted.task.node)) c.in-Some.is c.operation.ensures in
    let first : IsTold c.look.new.self (record c.args.wanted.task { node = c.in-Some.operation.first }) c.in-Told.value =
    subst (λ z. IsSeenAs c.look.new.self (record c.args.wanted.task { node = c.in-Some.operation.first }) z) c.in-Told.is c.in_ok-value.ensures.seen in
    let second : IsTold c.look-2.new.self (record c.args.wanted.task { node = c.in-Some.operation.second }) c.in-Told-2.value =
    subst (λ z. IsSeenAs c.look-2.new.self (record c.args.wanted.task { node = c.in-Some.operation.second }) z) c.in-Told-2.is c.in_ok-value-2.ensures.seen in
    both_given c.args.self.now c.look.new.self c.args.wanted.part c.args.wanted.task c.args.wanted.key c.in-Some.operation is c.look.ensures.looks c.in-Told.value first
    c.drop_values.new.self c.look-2.new.self c.drop_values.ensures.turned c.drop_values.ensures.rows c.look-2.ensures.looks c.in-Told-2.value second c.in_ok-value-3.value
    c.in_ok-value-3.ensures c.give_at_once.new.self (Ok c.give_at_once.new.answer) i x (c.in_ok-give_at_once.ensures.asks i x c.args.wanted.task) may
