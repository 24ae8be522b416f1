use Rattle.lucid_explain_command.specs.Keeping.{plain_kept}
use Rattle.lucid_explain_command.proofs.FirstKept.{renewed}
use Rattle.lucid_explain_command.proofs.remembering.RememberingPlaces.fill.Goals as goal

pub invariant_of-self-then-place-eq0 : goal.invariant_of-self-then-place-eq0
invariant_of-self-then-place-eq0 g c =
    record {
      keeps = λ some. renewed ((g.P.Places.world c.look.new.inner).place 0) (plain_kept c.look.new.kept) (plain_kept c.renew.new.self) c.look.ensures.keeps c.renew.ensures;
    }
