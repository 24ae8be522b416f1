use Rattle.lucid_tasks.proofs.Common.{sym, subst, refl, IsRow, with_cursor}
use Rattle.lucid_tasks.proofs.TaskLemmas.{words_tasks}
use Rattle.lucid_tasks.proofs.tasks.Tasks.set_cursor.Goals as goal

pub invariant_of-self : goal.invariant_of-self
invariant_of-self c = (
  words_tasks c.self.inside.rows c.set_cursor.new.self c.args.slot (with_cursor c.args.cursor) c.set_cursor.ensures
      (subst (λ v. IsRow v c.args.slot) (sym c.self.view_is) c.requires) (λ row. refl) (λ row. refl) c.self.inside.ready.items c.self.invariant.0,
  c.self.invariant.1,
)
