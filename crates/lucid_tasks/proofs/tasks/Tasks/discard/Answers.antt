use Rattle.lucid_tasks.proofs.Common.{sym, subst, IsRow}
use Rattle.lucid_tasks.proofs.TaskLemmas.{taken_tasks}
use Rattle.lucid_tasks.proofs.tasks.Tasks.discard.Goals as goal

pub invariant_of-self : goal.invariant_of-self
invariant_of-self c = (
  taken_tasks c.self.inside.rows c.drop_part.new.self c.args.part c.drop_part.ensures
      (subst (λ v. IsRow v c.args.part.slot) (sym c.self.view_is) c.requires.row) c.requires.index c.self.inside.ready.items c.self.invariant.0,
  c.self.invariant.1,
)
