use Rattle.lucid_texts.proofs.Spaced.{appended}
use Rattle.std.specs.Prelude.{codes}
use Rattle.lucid_explain_errors.specs.Inputs.{string_text}
use Rattle.lucid_explain_errors.proofs.Parts.{three}
use Rattle.lucid_explain_errors.proofs.inputs.put_string.Goals as goal
use Rattle.std.proofs.Common.{◌++◌}

pub returns : goal.returns
returns c =
    let text = c.args.text.now.items in
    let line = c.args.line.now in
    appended c.extend_from_slice-3.result c.extend_from_slice-3.new.self.items c.extend_from_slice-2.new.self.items (codes "'.\n") (text ++ string_text line)
    c.extend_from_slice-3.ensures.items
    (three text (codes "As a string it is written `") line (codes "'.\n") c.extend_from_slice.new.self.items c.extend_from_slice-2.new.self.items
    c.in_ok-extend_from_slice.ensures.items c.in_ok-extend_from_slice-2.ensures.items)
