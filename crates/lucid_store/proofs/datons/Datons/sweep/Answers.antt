use Rattle.lucid_store.proofs.Common.{ap, ◌∙◌, arith, option_and_then, lookup, same_key, beside, within, swept}
use Rattle.lucid_store.proofs.Besides.{length-beside, raise-beside, swept_from}
use Rattle.lucid_store.proofs.datons.Datons.sweep.Goals as goal

pub returns-clause-each : goal.returns-clause-each
returns-clause-each c = λ q. c.remove_over.ensures.each q
    ∙ ap (option_and_then (within c.args.limit)) (ap (λ l. lookup (same_key q) (beside c.self.inside.values.entries l)) c.raise.ensures
    ∙ raise-beside q c.self.inside.values.entries c.self.inside.ages c.self.invariant.0)
    ∙ swept_from c.args.limit (lookup (same_key q) (beside c.self.inside.values.entries c.self.inside.ages))
    ∙ ap (λ l. option_and_then (swept c.args.limit) (lookup (same_key q) l)) c.self.view_is

pub returns-clause-count : goal.returns-clause-count
returns-clause-count c =
    let mid = length-beside c.self.inside.values.entries c.raise.new.self in
    let old = length-beside c.self.inside.values.entries c.self.inside.ages in
    let less = c.remove_over.ensures.count in
    rw (← c.self.view_is) (omega (arith, mid, old, less))
