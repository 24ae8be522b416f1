use Rattle.lucid_show_command.proofs.Common.{refl, IfOk-weaker}
use Rattle.lucid_words.proofs.Adds.{adds}
use Rattle.lucid_show_command.proofs.words.with_steps.Goals as goal

-- each argument in turn
pub returns : goal.returns
returns c =
    let after1 = adds _ _ _ _ _ c.in_ok-arg.ensures c.flag.ensures.local c.flag.ensures.rule refl in
    let after2 = adds _ _ _ _ _ c.in_ok-arg-2.ensures c.text_option.ensures.local c.text_option.ensures.rule after1 in
    let after3 = adds _ _ _ _ _ c.in_ok-arg-3.ensures c.text_option-2.ensures.local c.text_option-2.ensures.rule after2 in
    let after4 = adds _ _ _ _ _ c.in_ok-arg-4.ensures c.text_option-3.ensures.local c.text_option-3.ensures.rule after3 in
    IfOk-weaker c.arg-5.result _ _ (λ m added. adds _ _ _ _ _ added c.text_option-4.ensures.local c.text_option-4.ensures.rule after4) c.arg-5.ensures
