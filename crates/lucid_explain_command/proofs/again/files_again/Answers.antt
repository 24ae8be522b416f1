use Rattle.lucid_explain_command.proofs.Common.{List, map, subst, Text, ℕ, plain_given, given_file}
use Rattle.lucid_explain_command.specs.Errors.{plain_file, as_named, Adds}
use Rattle.lucid_explain_command.proofs.again.files_again.Goals as goal

pub returns : goal.returns
returns g c =
    let files = g.F.Outlook.files c.args.outlook.now in
    let names = map as_named (map given_file (map plain_given c.args.given.now)) in
    let P : List (Text × List ℕ) → Type 0 = λ z. Adds files names z (map plain_file c.add_given.new.files.items) in
    subst P c.in_ok-files.ensures c.in_ok-add_given.ensures
