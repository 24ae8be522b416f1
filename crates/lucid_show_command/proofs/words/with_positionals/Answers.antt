use Rattle.lucid_show_command.proofs.Common.{refl, rules, IfOk-weaker}
use Rattle.lucid_words.proofs.Adds.{adds}
use Rattle.lucid_show_command.proofs.words.with_positionals.Goals as goal

-- each argument in turn
pub returns : goal.returns
returns c =
    let after1 = adds _ _ _ _ _ c.in_ok-arg.ensures (search rules) c.new.ensures.rule refl in
    IfOk-weaker c.arg-2.result _ _ (λ m added. adds _ _ _ _ _ added (search rules) (search rules) after1) c.arg-2.ensures
