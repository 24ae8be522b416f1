use Rattle.lucid_value.proofs.Common.{sym, subst, IsScanned}
use Rattle.lucid_value.proofs.Fronts.{front_none, front_unopened}
use Rattle.lucid_value.proofs.list_scan.list_front.Goals as goal

pub returns-in_default : goal.returns-in_default
returns-in_default c = front_unopened c.args.bytes.now (sym c.in_default.ensures)

pub returns-in-None : goal.returns-in-None
returns-in-None c =
    front_none c.args.bytes.now c.in-Some.tail.now (sym c.in-Some.ensures)
    (subst (λ found. IsScanned found c.in-Some.tail.now) c.in-None.is c.in_ok-front.ensures)
