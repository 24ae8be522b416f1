use Rattle.lucid_cert_rules.proofs.NeedCommon.{map, refl, sym, ◌∙◌, on_ok_weaker, inserted-absent, inserted-present, none_passes, plain_judgment}
use Rattle.lucid_cert_rules.proofs.SameCells.{was_there}
use Rattle.lucid_cert_rules.proofs.Walking.{steps_over}
use Rattle.lucid_cert_rules.proofs.walk.Walk.step.Goals as goal

pub returns-then-not-added : goal.returns-then-not-added
returns-then-not-added c =
    let present = sym c.if-not-added.true ∙ c.in_ok-added.ensures.added in
    steps_over c.args.table.now (map plain_judgment c.args.judgments.now) c.args.self.now (record c.args.self.now { seen = c.insert.new.self }) c.args.number
    (was_there _ present) refl (c.in_ok-added.ensures.keys ∙ inserted-present _ _ _ present) refl refl

pub returns : goal.returns
returns c =
    let absent = sym c.if-not-added.false ∙ c.in_ok-added.ensures.added in
    on_ok_weaker c.visit.result
    (λ visits all comes. visits c.args.self.now.seen.keys all (c.in_ok-added.ensures.keys ∙ inserted-absent _ _ _ absent) (none_passes _ absent) comes)
    c.visit.ensures
