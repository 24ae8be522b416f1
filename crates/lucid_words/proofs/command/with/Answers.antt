use Rattle.lucid_words.proofs.Common.{IfOk-weaker}
use Rattle.lucid_words.proofs.Adds.{adds}
use Rattle.lucid_words.proofs.command.with.Goals as goal

pub returns : goal.returns
returns c = λ rule same app was.
    let made = simp (c.branch-command.ensures, c.in_ok-command.is) at was in
    IfOk-weaker c.arg.result _ _ (λ m added. adds _ _ _ _ _ added c.requires same made) c.arg.ensures
