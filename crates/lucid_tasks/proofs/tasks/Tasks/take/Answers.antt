use Rattle.lucid_tasks.proofs.Common.{sym, subst, IsRow}
use Rattle.lucid_tasks.proofs.TaskLemmas.{taken_tasks}
use Rattle.lucid_tasks.proofs.tasks.Tasks.take.Goals as goal

pub invariant_of-self : goal.invariant_of-self
invariant_of-self c = (
  taken_tasks c.self.inside.rows c.take.new.self c.args.part c.take.ensures.rows
      (subst (λ v. IsRow v c.args.part.slot) (sym c.self.view_is) c.requires.row) c.requires.index c.self.inside.ready.items c.self.invariant.0,
  c.self.invariant.1,
)
