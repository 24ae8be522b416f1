use Rattle.lucid_tasks.proofs.Common.{sym, subst, IfSome, IsIdlePart}
use Rattle.lucid_tasks.proofs.TaskLemmas.{given_tasks}
use Rattle.lucid_tasks.proofs.tasks.Tasks.give.Goals as goal

pub invariant_of-self : goal.invariant_of-self
invariant_of-self c =
    let own : IsIdlePart c.self.inside.rows c.in-Some.part =
    subst (λ v. IsIdlePart v c.in-Some.part) (sym c.self.view_is) (subst (λ o. IfSome o (IsIdlePart c.args.self.now)) c.in-Some.is c.requires) in (
      given_tasks c.self.inside.rows c.give.new.self c.in-Some.part c.args.value c.give.ensures own.row own.index own.idle c.self.inside.ready.items
          c.self.invariant.0,
      c.self.invariant.1,
    )
