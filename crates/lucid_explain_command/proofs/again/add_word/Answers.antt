use Rattle.std.specs.Prelude.{option_map}
use Rattle.lucid_explain_command.proofs.Common.{Text, map, subst, on_ok_weaker}
use Rattle.lucid_explain_command.specs.Errors.{plain_input, IsFound}
use Rattle.lucid_explain_command.proofs.ReadAgain.{adds_one}
use Rattle.lucid_explain_command.proofs.again.add_word.Goals as goal

pub returns : goal.returns
returns g c =
    let files = g.F.Outlook.files c.args.outlook.now in
    let word = c.args.word.now in
    let found = option_map (λ bytes. bytes.items) c.in_ok-found.found in
    let P : Text → Type 0 = λ z. IsFound files z found in
    on_ok_weaker c.add_input.result
    (λ e. adds_one files word.name _ found (map plain_input c.args.inputs.now.items) (map plain_input c.add_input.new.inputs.items)
    (subst P c.deref.ensures c.in_ok-found.ensures) e)
    c.add_input.ensures
