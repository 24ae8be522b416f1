use Rattle.lucid_explain_command.proofs.Common.{List, ℕ, Option, map, ap, ◌++◌, ◌∙◌}
use Rattle.lucid_ports.specs.declared.files.MemoryFile.{MemoryFile}
use Rattle.lucid_explain_command.specs.Errors.{plain_file, labelled, file_read}
use Rattle.lucid_explain_command.proofs.again.file_read.Goals as goal

pub returns : goal.returns
returns c =
    c.in_ok-add_file.ensures ∙ ap (λ (o : Option (List ℕ)). map plain_file c.new-files.result.items ++ labelled c.args.name.now o) c.in_ok-found.ensures
    ∙ ap (λ (z : List MemoryFile). map plain_file z ++ file_read c.args.name.now c.args.source.now) c.new-files.ensures.items
