use Rattle.lucid_demand.proofs.Common.{None, sym, subst, OnOk, gave, AsksIn, SetsPart}
use Rattle.std.proofs.Common.{◌≡◌}
use Rattle.std.specs.Prelude.{IfSome, Ok, Err}
use Rattle.lucid_demand.specs.Leading.{LeadsTo, OnDone}
use Rattle.lucid_demand.proofs.TakenParts.{err_is}
use Rattle.lucid_demand.proofs.AskedParts.{on_ok}
use Rattle.lucid_demand.proofs.Leading.{leads_here, leads_on, open_leads}
use Rattle.lucid_demand.proofs.turn.Evaluation.ask_operator.Goals as goal

pub loop-init : goal.loop-init
loop-init g c = (
  leads_here c.args.self.now (record { part = c.args.part; task = c.args.task; key = c.args.key }) c.requires.idle c.requires.there c.requires.known,
  c.requires.open,
)

-- It is refused.
pub returns-in_err-next-clause-asks : goal.returns-in_err-next-clause-asks
returns-in_err-next-clause-asks g c = λ i x may.
    subst (λ r. AsksIn i.demand c.args.self.now c.ask_operation.new.self i.world c.args.part (gave r c.ask_operation.new.answer))
    (sym (err_is c.from_residual.result c.in_err-next.field-0.0 c.from_residual.ensures.1))
    (c.loop.invariant.0.asks i c.ask_operation.new.self (Err c.in_err-next.field-0.0) (c.in_err-next.ensures.asks i) x may)

-- Nothing else is wanted.
pub returns-in_default-clause-sets : goal.returns-in_default-clause-sets
returns-in_default-clause-sets g c =
    c.loop.invariant.0.sets c.ask_operation.new.self
    (subst (λ o. OnDone (Ok o) (λ done. OnOk done (IfSome c.loop.wanted.part (SetsPart c.loop.self c.ask_operation.new.self)))) c.in_default.is
    c.in_ok-next.ensures.sets)

pub returns-in_default-clause-open : goal.returns-in_default-clause-open
returns-in_default-clause-open g c =
    open_leads c.args.self.now c.loop.self (record { part = c.args.part; task = c.args.task; key = c.args.key }) c.loop.wanted
    c.loop.invariant.0 c.ask_operation.new.answer c.ask_operation.ensures.open

pub returns-in_default-clause-asks : goal.returns-in_default-clause-asks
returns-in_default-clause-asks g c = λ i x may.
    c.loop.invariant.0.asks i c.ask_operation.new.self (Ok c.ask_operation.new.answer)
    (λ y m. subst (λ o. OnDone (Ok o)
    (λ done. AsksIn i.demand c.loop.self c.ask_operation.new.self i.world c.loop.wanted.part (gave done c.ask_operation.new.answer)))
    c.in_default.is (c.in_ok-next.ensures.asks i y m)) x may

-- What is wanted next is no such operator.
pub returns-then-not-may_be_told-clause-asks : goal.returns-then-not-may_be_told-clause-asks
returns-then-not-may_be_told-clause-asks g c = λ i x may.
    let next : LeadsTo c.loop.self c.ask_operation.new.self c.loop.wanted c.in-Some.next
    × (c.ask_operation.new.answer ≡ None) =
    subst (λ o. IfSome o (λ n. LeadsTo c.loop.self c.ask_operation.new.self c.loop.wanted n × (c.ask_operation.new.answer ≡ None))) c.in-Some.is c.in_ok-next.ensures.next in
    (leads_on c.args.self.now c.loop.self c.ask_operation.new.self (record { part = c.args.part; task = c.args.task; key = c.args.key })
    c.loop.wanted c.in-Some.next c.loop.invariant.0 next.0).asks i c.ask_other.new.self (gave c.ask_other.result c.ask_other.new.answer)
    (c.ask_other.ensures.asks i) x may

-- It is one.
pub loop-preserved : goal.loop-preserved
loop-preserved g c =
    let next : LeadsTo c.loop.self c.ask_operation.new.self c.loop.wanted c.in-Some.next
    × (c.ask_operation.new.answer ≡ None) =
    subst (λ o. IfSome o (λ n. LeadsTo c.loop.self c.ask_operation.new.self c.loop.wanted n × (c.ask_operation.new.answer ≡ None))) c.in-Some.is c.in_ok-next.ensures.next in (
      leads_on c.args.self.now c.loop.self c.ask_operation.new.self (record { part = c.args.part; task = c.args.task; key = c.args.key })
          c.loop.wanted c.in-Some.next c.loop.invariant.0 next.0,
      next.1,
    )

-- So many operators were looked at.
pub returns-clause-sets : goal.returns-clause-sets
returns-clause-sets g c = on_ok c.ask_other-2.result _ _ (c.loop.invariant.0.sets c.ask_other-2.new.self) c.ask_other-2.ensures.sets

pub returns-clause-open : goal.returns-clause-open
returns-clause-open g c =
    open_leads c.args.self.now c.loop.self (record { part = c.args.part; task = c.args.task; key = c.args.key }) c.loop.wanted c.loop.invariant.0
    c.ask_other-2.new.answer c.ask_other-2.ensures.open

pub returns-clause-asks : goal.returns-clause-asks
returns-clause-asks g c = λ i x may.
    c.loop.invariant.0.asks i c.ask_other-2.new.self (gave c.ask_other-2.result c.ask_other-2.new.answer) (c.ask_other-2.ensures.asks i) x may
