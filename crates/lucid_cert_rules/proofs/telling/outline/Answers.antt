use Rattle.lucid_cert_rules.proofs.NeedCommon.{map, plain_judgment}
use Rattle.lucid_cert_rules.proofs.Lines.{next_waits, none_waits}
use Rattle.lucid_cert_rules.proofs.telling.outline.Goals as goal

pub steps-preserved : goal.steps-preserved
steps-preserved c = λ all on.
    c.steps.invariant all (next_waits c.args.table.now (map plain_judgment c.args.judgments.now) c.steps.telling c.in-Some.next c.pop.new.self all
    c.in-Some.ensures (c.in_ok-tell.ensures all on))

pub returns-in_default : goal.returns-in_default
returns-in_default c =
    let none = rw c.in_default.is at c.pop.ensures in
    rw c.replace.ensures.value (c.steps.invariant c.steps.telling.entries.items (none_waits c.args.table.now (map plain_judgment c.args.judgments.now) c.steps.telling none.0))
