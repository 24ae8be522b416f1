use Rattle.lucid_value.proofs.Common.{sym, subst, IsScanned}
use Rattle.lucid_value.proofs.Readings.{list_longer}
use Rattle.lucid_value.proofs.read.read_bytes.Goals as goal

pub returns-then-front-tail : goal.returns-then-front-tail
returns-then-front-tail c =
    list_longer c.args.bytes.now c.in-Some-opened.tail.now c.in-Some-2.front (sym c.in-Some-opened.ensures)
    (subst (λ found. IsScanned found c.in-Some-opened.tail.now) c.in-Some-2.is c.in_ok-front.ensures) c.if-front-tail.true
