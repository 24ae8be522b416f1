use Rattle.lucid_scope.proofs.Common.{ap, sym, ◌∙◌, look, put_back, with_owner}
use Rattle.lucid_scope.proofs.Hiding.{put_back-snoc, put_back-alike}
use Rattle.lucid_scope.proofs.table.leave.Goals as goal

pub loop-last-preserved : goal.loop-last-preserved
loop-last-preserved c n =
    put_back-alike c.pop.new.self.items (look c.set.new.self) (with_owner c.in-Some.last.name c.in-Some.last.owner (look c.loop-last.table))
    c.in_ok-set.ensures.sets n
    ∙ sym (put_back-snoc c.pop.new.self.items c.in-Some.last (look c.loop-last.table) n)
    ∙ ap (λ l. put_back l (look c.loop-last.table) n) (sym c.in-Some.ensures.items)
    ∙ c.loop-last.invariant n
