use Rattle.lucid_tasks.proofs.Common.{◌<◌, length, subst, sym, arith, ◌∙◌}
use Rattle.lucid_tasks.proofs.ForestLemmas.{ready_meaning, ready_from_meaning, ready_exists}
use Rattle.lucid_tasks.proofs.SlotLemmas.{some_listed}
use Rattle.lucid_tasks.proofs.tasks.Tasks.ready.Goals as goal

pub returns-clause-meaning : goal.returns-clause-meaning
returns-clause-meaning c =
    let tasks = c.self.invariant.0 in
    rw (← c.self.view_is) (λ slot. (ready_meaning c.self.inside.rows tasks.forest slot, ready_from_meaning c.self.inside.rows tasks.forest slot))

pub returns-clause-some : goal.returns-clause-some
returns-clause-some c =
    let tasks = c.self.invariant.0 in
    rw (← c.self.view_is) (λ slot row.
    let found = ready_exists c.self.inside.rows tasks.forest (length c.self.inside.rows) slot (omega arith) row in
    subst (λ xs. 0 < length xs) (sym c.as_slice.ensures.value) (some_listed c.self.inside.ready.items found.0 (tasks.listed found.0 ∙ found.1)))
