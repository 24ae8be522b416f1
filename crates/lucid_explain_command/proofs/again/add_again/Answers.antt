use Rattle.lucid_explain_command.proofs.Common.{map, on_ok_weaker}
use Rattle.std.specs.Prelude.{option_map}
use Rattle.lucid_explain_command.specs.Errors.{plain_file}
use Rattle.lucid_explain_command.proofs.ReadAgain.{adds_one}
use Rattle.lucid_explain_command.proofs.again.add_again.Goals as goal

pub returns : goal.returns
returns g c =
    let files = g.F.Outlook.files c.args.outlook.now in
    let name = c.args.name.now in
    on_ok_weaker c.add_file.result
    (λ e. adds_one files name name (option_map (λ bytes. bytes.items) c.in_ok-found.found) (map plain_file c.args.files.now.items)
    (map plain_file c.add_file.new.files.items) c.in_ok-found.ensures e)
    c.add_file.ensures
