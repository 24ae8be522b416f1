use Rattle.lucid_cert.proofs.CheckCommon.{get_or, ap, arith, length, subst, List, ℕ, context_of, table_of, plain_judgment, Rest, judgments_of, contexts_in}
use Rattle.lucid_cert.proofs.Feeding.{FedSoFar, none_fed, no_look, one_more_fed, one_use_too_many, all_fed}
use Rattle.lucid_cert.proofs.check.Check.fed.Goals as goal

pub loop-number-init : goal.loop-number-init
loop-number-init c =
    none_fed (table_of c.args.self.now.program.now) (contexts_in c.args.self.now) (judgments_of c.args.self.now) c.args.before c.args.node
    (context_of c.args.self.now.tags c.args.context) (plain_judgment c.args.row.now)
    c.begin-rest.result c.begin-rest.ensures.plan c.begin-rest.ensures.stands

pub returns-in_default : goal.returns-in_default
returns-in_default c =
    one_use_too_many (table_of c.args.self.now.program.now) (contexts_in c.args.self.now) (judgments_of c.args.self.now) c.args.before c.args.node
    (context_of c.args.self.now.tags c.args.context) (plain_judgment c.args.row.now)
    c.loop-number.number-index (omega (arith, c.loop-number-test.true, ap length c.items-uses.ensures))
    (get_or c.items-uses.result.now c.loop-number.number-index 0)
    (ap (λ (us : List ℕ). get_or us c.loop-number.number-index 0) c.items-uses.ensures) c.loop-number.rest (no_look c.loop-number.rest c.in_default.not-Look)
    c.loop-number.invariant

pub loop-number-preserved : goal.loop-number-preserved
loop-number-preserved c =
    one_more_fed (table_of c.args.self.now.program.now) (contexts_in c.args.self.now) (judgments_of c.args.self.now) c.args.before c.args.node
    (context_of c.args.self.now.tags c.args.context) (plain_judgment c.args.row.now)
    c.loop-number.number-index (omega (arith, c.loop-number-test.true, ap length c.items-uses.ensures))
    (get_or c.items-uses.result.now c.loop-number.number-index 0)
    (ap (λ (us : List ℕ). get_or us c.loop-number.number-index 0) c.items-uses.ensures) c.in-Look.look
    (subst (λ (r : Rest). FedSoFar (table_of c.args.self.now.program.now) (contexts_in c.args.self.now) (judgments_of c.args.self.now) c.args.before c.args.node
    (context_of c.args.self.now.tags c.args.context)
    (plain_judgment c.args.row.now) c.loop-number.number-index r) c.in-Look.is c.loop-number.invariant)
    _ c.go_on-rest.result c.in_ok-value.ensures.value c.in_ok-value.ensures.earlier c.in_ok-value.ensures.told c.go_on-rest.ensures.plan
    c.go_on-rest.ensures.stands

pub returns : goal.returns
returns c =
    all_fed (table_of c.args.self.now.program.now) (contexts_in c.args.self.now) (judgments_of c.args.self.now) c.args.before c.args.node
    (context_of c.args.self.now.tags c.args.context) (plain_judgment c.args.row.now)
    c.loop-number.number-index c.loop-number.rest (omega (arith, c.loop-number-test.false, c.loop-number.auto.number-index-end, ap length c.items-uses.ensures))
    c.loop-number.invariant
