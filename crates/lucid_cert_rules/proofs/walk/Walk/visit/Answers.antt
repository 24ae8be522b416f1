use Rattle.lucid_cert_rules.proofs.NeedCommon.{ℕ, List, map, refl, sym, ap, ◌∙◌, ◌++◌, on_ok_weaker, plain_judgment}
use Rattle.lucid_cert_rules.proofs.Walking.{visits_asking, visits_looking}
use Rattle.lucid_cert_rules.proofs.walk.Walk.visit.Goals as goal

pub returns-in-Some : goal.returns-in-Some
returns-in-Some c =
    on_ok_weaker c.find.result
    (visits_asking c.args.table.now (map plain_judgment c.args.judgments.now) c.args.self.now c.find.new.self c.args.number c.in-Some.cell
    (sym c.in-Some.ensures)) c.find.ensures

pub returns-in-None : goal.returns-in-None
returns-in-None c =
    on_ok_weaker c.wait_for.result
    (λ waits. visits_looking c.args.table.now (map plain_judgment c.args.judgments.now) c.args.self.now
    (record c.args.self.now { waiting = c.wait_for.new.waiting }) c.args.number (sym c.in-None.ensures)
    (waits ∙ ap (λ (us : List ℕ). us ++ c.args.self.now.waiting) c.uses_at.ensures) refl refl refl) c.wait_for.ensures
