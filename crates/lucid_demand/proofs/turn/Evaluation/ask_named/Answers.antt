use Rattle.lucid_demand.proofs.Common.{None, refl, ◌∙◌, sym, subst, IsKnown, Evaluating, gave, value_at, AsksIn, NoMemory}
use Rattle.std.proofs.Common.{Some}
use Rattle.std.specs.Prelude.{IfSome}
use Rattle.lucid_tasks.specs.Rows.{IsIdlePart}
use Rattle.lucid_demand.specs.Naming.{IsNamedAim}
use Rattle.lucid_demand.proofs.TakenParts.{gave_err}
use Rattle.lucid_demand.proofs.AskedParts.{asked_from, on_ok, open_still}
use Rattle.lucid_demand.proofs.AskedReferences.{LooksUp}
use Rattle.lucid_demand.proofs.NamedBodies.{body_looked, looked_cost, named_may_be_given, row_refused, row_asked, row_sets, new_part, named_looked, named_asked, looked_sets, named_sets}
use Rattle.lucid_demand.proofs.turn.Evaluation.ask_named.Goals as goal

-- ---- the body is no name, or one that leads nowhere: it has a row, or there is no memory for one

pub returns-in_err-ask-clause-asks : goal.returns-in_err-ask-clause-asks
returns-in_err-ask-clause-asks g c = λ i x may.
    row_refused _ c.args.self.now c.self.view_is i.demand i.world c.args.part x c.args.body (Some c.args.key) may c.ask.new.self
    (gave c.from_residual.result c.args.answer.now) (gave_err c.from_residual.result c.args.answer.now NoMemory c.from_residual.ensures.1)

pub returns-in_default-clause-sets : goal.returns-in_default-clause-sets
returns-in_default-clause-sets g c =
    row_sets _ c.args.self.now c.self.view_is c.args.part c.args.body _ c.requires.idle c.ask.new.self c.in_ok-ask.field-0
    c.in_ok-ask.ensures.newest c.in_ok-ask.ensures.rows

pub returns-in_default-clause-open : goal.returns-in_default-clause-open
returns-in_default-clause-open g c = open_still c.args.part c.args.answer.now c.requires.open

pub returns-in_default-clause-asks : goal.returns-in_default-clause-asks
returns-in_default-clause-asks g c = λ i x may.
    row_asked _ c.args.self.now c.self.view_is i.demand i.world c.args.part x c.args.body (Some c.args.key) may c.ask.new.self c.in_ok-ask.field-0
    c.in_ok-ask.ensures.newest c.in_ok-ask.ensures.rows c.args.answer.now c.requires.open

-- ---- it is a name, which is looked up

-- There was no memory for a copy of its value.
pub returns-in_err-value-clause-asks : goal.returns-in_err-value-clause-asks
returns-in_err-value-clause-asks g c = λ i x may.
    let looks : LooksUp c.args.self.now c.copy_held.new.self c.in-Some.aim.key (value_at c.args.self.now.engine.stored c.in-Some.aim.key) =
    record { value = refl; touched = c.copy_held.ensures.touched; only = c.copy_held.ensures.only } in
    asked_from i.demand c.args.self.now c.copy_held.new.self c.copy_held.new.self i.world c.args.part (gave c.from_residual-in_err-value.result c.args.answer.now)
    (looked_cost i.demand c.args.self.now c.copy_held.new.self c.in-Some.aim.key _ looks)
    (row_refused c.copy_held.new.self c.copy_held.new.self refl i.demand i.world c.args.part x c.args.body (Some c.args.key)
    (body_looked i.demand c.args.self.now c.copy_held.new.self i.world c.args.part x c.args.body c.args.key c.in-Some.aim.key _ looks may)
    c.copy_held.new.self.rows (gave c.from_residual-in_err-value.result c.args.answer.now)
    (gave_err c.from_residual-in_err-value.result c.args.answer.now NoMemory c.from_residual-in_err-value.ensures.1))

pub give_named-requires-clause-idle : goal.give_named-requires-clause-idle
give_named-requires-clause-idle g c =
    subst (λ (e : Evaluating). IfSome c.args.part (IsIdlePart e.rows)) (sym c.copy_held.ensures.only) c.requires.idle

-- It is held.
pub returns-in-Some-2-clause-sets : goal.returns-in-Some-2-clause-sets
returns-in-Some-2-clause-sets g c =
    on_ok c.give_named.result _ _ (looked_sets c.args.self.now c.copy_held.new.self c.give_named.new.self c.in-Some.aim.key c.in_ok-value.field-0 c.args.part
    (record { value = c.in_ok-value.ensures.value; touched = c.copy_held.ensures.touched; only = c.copy_held.ensures.only })) c.give_named.ensures.sets

pub returns-in-Some-2-clause-asks : goal.returns-in-Some-2-clause-asks
returns-in-Some-2-clause-asks g c = λ i x may.
    let looks : LooksUp c.args.self.now c.copy_held.new.self c.in-Some.aim.key c.in_ok-value.field-0 =
    record { value = c.in_ok-value.ensures.value; touched = c.copy_held.ensures.touched; only = c.copy_held.ensures.only } in
    let named : IsNamedAim c.args.self.now c.args.body c.in-Some.aim =
    subst (λ o. IfSome o (IsNamedAim c.args.self.now c.args.body)) c.in-Some.is c.named_aim.ensures in
    asked_from i.demand c.args.self.now c.copy_held.new.self c.give_named.new.self i.world c.args.part (gave c.give_named.result c.give_named.new.answer)
    (looked_cost i.demand c.args.self.now c.copy_held.new.self c.in-Some.aim.key _ looks)
    (c.give_named.ensures.asks i x c.args.body
    (named_may_be_given i.demand c.args.self.now c.copy_held.new.self i.world c.args.part x c.args.body c.args.key c.in-Some-2.value may c.in-Some.aim named
    (subst (λ o. LooksUp c.args.self.now c.copy_held.new.self c.in-Some.aim.key o) c.in-Some-2.is looks)))

-- It isn't held, and there was no memory for a row.
pub returns-in_err-slot-clause-asks : goal.returns-in_err-slot-clause-asks
returns-in_err-slot-clause-asks g c = λ i x may.
    let looks : LooksUp c.args.self.now c.copy_held.new.self c.in-Some.aim.key c.in_ok-value.field-0 =
    record { value = c.in_ok-value.ensures.value; touched = c.copy_held.ensures.touched; only = c.copy_held.ensures.only } in
    asked_from i.demand c.args.self.now c.copy_held.new.self _ i.world c.args.part (gave c.from_residual-in_err-slot.result c.args.answer.now)
    (looked_cost i.demand c.args.self.now c.copy_held.new.self c.in-Some.aim.key _ looks)
    (row_refused _ c.copy_held.new.self c.self-2.view_is i.demand i.world c.args.part x c.args.body (Some c.args.key)
    (body_looked i.demand c.args.self.now c.copy_held.new.self i.world c.args.part x c.args.body c.args.key c.in-Some.aim.key _ looks may) c.ask-2.new.self
    (gave c.from_residual-in_err-slot.result c.args.answer.now)
    (gave_err c.from_residual-in_err-slot.result c.args.answer.now NoMemory c.from_residual-in_err-slot.ensures.1))

-- ---- it isn't held: it has a row, which asks for it

pub ask_within-requires-clause-idle : goal.ask_within-requires-clause-idle
ask_within-requires-clause-idle g c = new_part c.self-2.inside.tasks c.ask-2.new.self c.args.part c.in_ok-slot.slot c.args.body _ c.in_ok-slot.ensures.rows

pub ask_within-requires-clause-known : goal.ask_within-requires-clause-known
ask_within-requires-clause-known g c =
    subst (λ (e : Evaluating). IsKnown e.engine.known c.args.body.tag) (sym (c.self-2.view_is ∙ c.copy_held.ensures.only)) c.requires.known

pub ask_within-requires-clause-named : goal.ask_within-requires-clause-named
ask_within-requires-clause-named g c =
    named_looked c.args.self.now c.copy_held.new.self _ c.args.body c.in-Some.aim c.copy_held.ensures.only c.self-2.view_is c.ask-2.new.self
    (subst (λ o. IfSome o (IsNamedAim c.args.self.now c.args.body)) c.in-Some.is c.named_aim.ensures)

pub returns-clause-sets : goal.returns-clause-sets
returns-clause-sets g c =
    on_ok c.ask_within.result _ _
    (named_sets c.args.self.now c.copy_held.new.self _ c.ask_within.new.self c.in-Some.aim.key c.in_ok-value.field-0
    (record { value = c.in_ok-value.ensures.value; touched = c.copy_held.ensures.touched; only = c.copy_held.ensures.only }) c.self-2.view_is c.args.part c.args.body _
    c.requires.idle c.ask-2.new.self c.in_ok-slot.slot c.in_ok-slot.ensures.newest c.in_ok-slot.ensures.rows) c.ask_within.ensures.sets

pub returns-clause-open : goal.returns-clause-open
returns-clause-open g c = open_still c.args.part c.args.answer.now c.requires.open

pub returns-clause-asks : goal.returns-clause-asks
returns-clause-asks g c = λ i x may.
    let looks : LooksUp c.args.self.now c.copy_held.new.self c.in-Some.aim.key None =
    subst (λ o. LooksUp c.args.self.now c.copy_held.new.self c.in-Some.aim.key o) c.in_default-2.is
    (record { value = c.in_ok-value.ensures.value; touched = c.copy_held.ensures.touched; only = c.copy_held.ensures.only }) in
    let named : IsNamedAim c.args.self.now c.args.body c.in-Some.aim =
    subst (λ o. IfSome o (IsNamedAim c.args.self.now c.args.body)) c.in-Some.is c.named_aim.ensures in
    subst (λ o. AsksIn i.demand c.args.self.now c.ask_within.new.self i.world c.args.part (gave c.ask_within.result o)) (sym c.requires.open)
    (named_asked i.demand c.args.self.now c.copy_held.new.self _ i.world c.args.part x c.args.body c.args.key may c.in-Some.aim named looks c.self-2.view_is
    c.ask-2.new.self c.in_ok-slot.slot c.in_ok-slot.ensures.newest c.in_ok-slot.ensures.rows c.ask_within.new.self (gave c.ask_within.result None)
    (c.ask_within.ensures.asks i))
